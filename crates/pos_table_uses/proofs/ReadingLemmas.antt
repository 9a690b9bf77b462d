-- Tables that are only read.
use Rattle.std.proofs.Common.{◌≡◌, ℕ, zero, suc, ◌-◌, ◌≤◌, subst, arith}
use Rattle.std.specs.Prelude.{slice_set}
use Rattle.pos_edge.specs.View.{View}
use Rattle.pos_lists.specs.TableLists.{TableLists}
use Rattle.pos_marks.proofs.MarkLemmas.{reads_none}
use Rattle.pos_record.specs.Kinds.{pair_width}
use Rattle.pos_runs.specs.Lists.{IsListRead}
use Rattle.pos_runs.specs.Runs.{StandsSealed, TablesState, TablesStand, pages_at}
use Rattle.pos_prune.proofs.PassLemmas.{lists_none, lists_read, lists_then, reads_then}
use Rattle.pos_table_uses.specs.Reading.{HasRead}

-- nothing was read yet
pub read_none : (k : ℕ) (t : TablesState) (v : View) → HasRead k t t v v
read_none k t v = record { only = reads_none v; stands = λ ts h. h; lists = lists_none t }

-- and then more
pub read_then : (k : ℕ) (t u w : TablesState) (a b c : View) → HasRead k t u a b → HasRead k u w b c → HasRead k t w a c
read_then k t u w a b c p q = record {
  only = reads_then a b c p.only q.only;
  stands = λ ts h. q.stands ts (p.stands ts h);
  lists = lists_then t u w p.lists q.lists;
}

-- a record was read
pub read_one : (k n : ℕ) (t u : TablesState) (a b : View) → u ≡ slice_set t n (pages_at u n) → IsListRead (pages_at t n) (pages_at u n) a b
    → ((ts : TableLists) → TablesStand k t ts a → TablesStand k u ts b) → HasRead k t u a b
read_one k n t u a b others got stands = record { only = got.only; stands = stands; lists = lists_read t u n a b others got }

-- some tables stand after it
pub still_stand : (k : ℕ) (t u : TablesState) (a b : View) → HasRead k t u a b → ((ts : TableLists) × TablesStand k t ts a) → (ts : TableLists) × TablesStand k u ts b
still_stand k t u a b read ts = (ts.0, read.stands ts.0 ts.1)

-- the pairs of a table from 2 to 7 can be read
pub pairs_stand : (k n : ℕ) (t : TablesState) (ts : TableLists) (v : View) → 2 ≤ n → n ≤ 7 → TablesStand k t ts v → StandsSealed (pair_width k) (pages_at t (n - 1)) v
pairs_stand k zero t ts v low high h = absurd (omega arith)
pairs_stand k (suc zero) t ts v low high h = absurd (omega arith)
pairs_stand k (suc (suc n)) t ts v low high h =
    let same : suc n ≡ suc (suc n) - 1 = omega arith in
    subst (λ (m : ℕ). StandsSealed (pair_width k) (pages_at t m) v) same (h.levels (suc n) (omega arith))
