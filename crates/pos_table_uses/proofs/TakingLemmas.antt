-- Entries of table 1 that are taken one after another.
use Rattle.std.proofs.Common.{◌≡◌, ℕ, ◌+◌, ◌*◌, ◌-◌, ◌^◌, ◌<◌, ◌≤◌, List, [], ◌∷◌, ◌++◌, length, arith, refl, sym, subst}
use Rattle.std.specs.List.{All}
use Rattle.std.proofs.lemmas.List.{length_push}
use Rattle.std.proofs.lemmas.List.Elements.{All-nil, All-push, All-weaker}
use Rattle.pos_tuple.specs.declared.entry.Entry.{Entry}
use Rattle.pos_tuple.specs.Node.{IsEntry, metadata_units}
use Rattle.pos_forward.specs.declared.drafts.Draft.{Draft}
use Rattle.pos_forward.specs.declared.matcher.Matcher.{Matcher}
use Rattle.pos_forward.specs.Matched.{IsMatched, IsReady, MayFinish, MayTake}

-- so many entries are taken, none with a greater y
pub record HasTaken (k i least : ℕ) (m : Matcher) (drafts : List Draft) : Type 0 where
  pub es : List Entry
  pub matched : IsMatched k 2 es m drafts
  pub rise : All (λ e. e.y ≤ least) es
  pub few : length es ≤ i

pub taken_none : (k : ℕ) (m : Matcher) (drafts : List Draft) → drafts ≡ [] → IsReady m → HasTaken k 0 0 m drafts
taken_none k m drafts none ready = record {
  es = [];
  matched = subst (λ ds. IsMatched k 2 [] m ds) (sym none) (ready k 2);
  rise = All-nil (λ b. b.y ≤ 0);
  few = omega arith;
}

raised : (least y : ℕ) (es : List Entry) → least ≤ y → All (λ b. b.y ≤ least) es → All (λ b. b.y ≤ y) es
raised least y es above rise = All-weaker (λ b. b.y ≤ least) (λ b. b.y ≤ y) (λ b h. omega arith) es rise

pub may_take : (k i least n : ℕ) (e : Entry) (m : Matcher) (drafts : List Draft) → i < n → n < 2 ^ 52 → least ≤ e.y → IsEntry k 1 e → HasTaken k i least m drafts → MayTake k 2 e m drafts
may_take k i least n e m drafts more few above entry h = record {
  es = h.es;
  matched = h.matched;
  rise = raised least e.y h.es above h.rise;
  few = let before = h.few in omega arith;
  entry = entry;
}

pub taken_more : (k i least : ℕ) (e : Entry) (m u : Matcher) (drafts made : List Draft) → least ≤ e.y
    → ((es : List Entry) → IsMatched k 2 es m drafts → All (λ b. b.y ≤ e.y) es → IsMatched k 2 (es ++ e ∷ []) u made)
    → HasTaken k i least m drafts → HasTaken k (i + 1) e.y u made
taken_more k i least e m u drafts made above taken h =
    let rise = raised least e.y h.es above h.rise in
    record {
      es = h.es ++ e ∷ [];
      matched = taken h.es h.matched rise;
      rise = All-push (λ b. b.y ≤ e.y) h.es e rise (omega arith);
      few = let before = h.few in let more = length_push h.es e in omega arith;
    }

pub may_finish : (k i least n : ℕ) (m : Matcher) (drafts : List Draft) → i ≤ n → n < 2 ^ 52 → HasTaken k i least m drafts → MayFinish k 2 m drafts
may_finish k i least n m drafts all few h = record { es = h.es; matched = h.matched; few = let before = h.few in omega arith }

-- numbers of size 10
pub y_fits : (k y : ℕ) → k ≡ 10 → y < 65536 → y < 2 ^ (k + 6)
y_fits k y is small = subst (λ (x : ℕ). y < 2 ^ (x + 6)) (sym is) small

pub meta_fits : (k : ℕ) → k ≡ 10 → 0 * 2 ^ 128 + 5 < 2 ^ (k * metadata_units 1)
meta_fits k is = subst (λ (x : ℕ). 0 * 2 ^ 128 + 5 < 2 ^ (x * metadata_units 1)) (sym is) (omega arith)
