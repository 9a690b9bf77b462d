use Rattle.std.proofs.Common.{◌≡◌, ℕ, ◌+◌, ◌<◌, List, map, ◌++◌, length, arith, sym, subst}
use Rattle.std.specs.List.{All}
use Rattle.std.specs.List.Sorted.{IsNonDecreasing}
use Rattle.pos_buckets.specs.Pairs.{ArePairs, AreNeighbours}
use Rattle.pos_forward.specs.Waiting.{AreMadeOrWait, shifted}
use Rattle.pos_forward.proofs.TakenLemmas.{left-entries, right-entries, left-stands, right-stands, buckets-neighbours, right-rises, join-none, join-pairs, pairs-inside}
use Rattle.pos_forward.proofs.matcher.Matcher.join.Goals as goal

pub returns-then-self-clause-joined : goal.returns-then-self-clause-joined
returns-then-self-clause-joined c = λ es h.
    let has = h.has in
    record {
      before = has.before;
      taken = has.taken;
      clear = has.clear;
      few = has.few;
      done = has.done;
      pairs = join-none c.args.size c.args.t es has.before c.args.self.now.left c.args.self.now.right has.taken has.done (omega (arith, c.if-self.true)) has.pairs;
      gathered = has.gathered;
    }

pub list-requires-clause-neighbours : goal.list-requires-clause-neighbours
list-requires-clause-neighbours c =
    let has = c.requires.taken.matched.has in
    let next : c.args.self.now.left.next + 1 ≡ c.args.self.now.right.next = omega (arith, c.if-self.false) in
    let h : AreNeighbours c.args.self.now.left.ys.items c.args.self.now.right.ys.items =
    buckets-neighbours c.args.size c.args.t c.requires.taken.es has.before c.args.self.now.left c.args.self.now.right has.taken next in
    subst (λ (a : List ℕ). AreNeighbours a c.as_slice-2.result.now) (sym c.as_slice.ensures.value)
    (subst (λ (b : List ℕ). AreNeighbours c.args.self.now.left.ys.items b) (sym c.as_slice-2.ensures.value) h)

pub list-requires-clause-rise : goal.list-requires-clause-rise
list-requires-clause-rise c =
    let has = c.requires.taken.matched.has in
    subst (λ (b : List ℕ). IsNonDecreasing b) (sym c.as_slice-2.ensures.value)
    (right-rises c.args.size c.args.t c.requires.taken.es has.before c.args.self.now.left c.args.self.now.right has.taken)

pub gather-requires-clause-left_entries : goal.gather-requires-clause-left_entries
gather-requires-clause-left_entries c =
    let has = c.requires.taken.matched.has in
    left-entries c.args.size c.args.t c.requires.taken.es has.before c.args.self.now.left c.args.self.now.right has.taken

pub gather-requires-clause-right_entries : goal.gather-requires-clause-right_entries
gather-requires-clause-right_entries c =
    let has = c.requires.taken.matched.has in
    right-entries c.args.size c.args.t c.requires.taken.es has.before c.args.self.now.left c.args.self.now.right has.taken

listed : (l r a b : List ℕ) (ps : List (ℕ × ℕ)) → a ≡ l → b ≡ r → ArePairs a b ps → ArePairs l r ps
listed l r a b ps e f h = subst (λ (x : List ℕ). ArePairs x r ps) e (subst (λ (y : List ℕ). ArePairs a y ps) f h)

pub gather-requires-clause-inside : goal.gather-requires-clause-inside
gather-requires-clause-inside c =
    let has = c.requires.taken.matched.has in
    let pairs : ArePairs c.args.self.now.left.ys.items c.args.self.now.right.ys.items c.list.new.pairs.items =
    listed _ _ _ _ c.list.new.pairs.items c.as_slice.ensures.value c.as_slice-2.ensures.value c.in_ok-list.ensures.pairs in
    subst (λ (ps : List (ℕ × ℕ)). All (λ p. (p.0 < length c.args.self.now.left.entries.items) × (p.1 < length c.args.self.now.right.entries.items)) ps)
    (sym c.as_slice-3.ensures.value)
    (pairs-inside c.args.size c.args.t c.requires.taken.es has.before c.args.self.now.left c.args.self.now.right has.taken c.list.new.pairs.items pairs)

pub returns-clause-joined : goal.returns-clause-joined
returns-clause-joined c = λ es h.
    let has = h.has in
    let l = c.args.self.now.left in
    let r = c.args.self.now.right in
    let pairs : ArePairs l.ys.items r.ys.items c.list.new.pairs.items =
    listed _ _ _ _ c.list.new.pairs.items c.as_slice.ensures.value c.as_slice-2.ensures.value c.in_ok-list.ensures.pairs in
    record {
      before = has.before;
      taken = has.taken;
      clear = c.in_ok-list.ensures.clear;
      few = c.in_ok-gather.ensures.few;
      done = has.done ++ map (shifted l.first r.first) c.list.new.pairs.items;
      pairs = join-pairs c.args.size c.args.t es has.before l r has.taken has.done c.list.new.pairs.items has.pairs pairs;
      gathered =
          subst (λ (ps : List (ℕ × ℕ)). AreMadeOrWait c.args.size c.args.t es (has.done ++ map (shifted l.first r.first) ps) c.gather.new.waiting c.gather.new.drafts)
          c.as_slice-3.ensures.value
          (c.in_ok-gather.ensures.gathered es has.done (left-stands c.args.size c.args.t es has.before l r has.taken) (right-stands c.args.size c.args.t es has.before l r has.taken) has.gathered);
    }
