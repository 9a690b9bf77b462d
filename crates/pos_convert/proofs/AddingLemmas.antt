-- Numbers of a table added one by one.
use Rattle.std.proofs.Common.{◌≡◌, ℕ, ◌+◌, ◌*◌, ◌^◌, ◌<◌, ◌≤◌, List, [], ◌∷◌, ◌++◌, length, take, get_or, Option, Some, None, Result, Ok, Err, refl, sym, ap, ◌∙◌, subst, arith}
use Rattle.std.proofs.lemmas.List.{length-append, length-take-le, take_more}
use Rattle.std.proofs.lemmas.Option.{none-some, same_Some}
use Rattle.std.proofs.Math.Pow.{pow_mono}
use Rattle.pos_edge.specs.View.{View}
use Rattle.pos_edge.specs.declared.scratch.WorkFault.{WorkFault}
use Rattle.pos_layout.specs.declared.damage.Damage.{Damage}
use Rattle.pos_layout.specs.Drafts.{Draft, Stands, WriterState, added}
use Rattle.pos_layout.specs.Images.{IsShut}
use Rattle.pos_layout.specs.Writing.{Goes, IsStanding, MayAdd, OneMore, SameFile, Works, with_numbers}
use Rattle.pos_layout.proofs.WorksLemmas.{with_numbers-append, with_numbers-none}
use Rattle.pos_reader.specs.Plots.{PlotState}
use Rattle.pos_convert.specs.declared.fault.ConvertFault.{ConvertFault}
use Rattle.pos_convert.specs.Faults.{of_work}
use Rattle.pos_convert.specs.Copies.{HasAdded, IsCopying, IsListStop, NumberAnswer, NumberShows, PointsInside, least_after}
use Rattle.pos_convert.proofs.SoundLemmas.{least_more, least_none, sound_more, sound_none}
use Rattle.pos_convert.proofs.CopyingLemmas.{copying_none, copying_then, work_copying, work_refused}

-- ---- what a number shows

pub answer_none : (p : PlotState) (t at least n : ℕ) (r : Option Damage) → r ≡ None → NumberAnswer p t at least n r → PointsInside p t n × (least ≤ n)
answer_none p t at least n None is answer = answer
answer_none p t at least n (Some d) is answer = absurd (none-some d (sym is))

-- ---- several numbers

-- The first numbers, so many, were added.
pub record AddedSoFar (p : PlotState) (t : ℕ) (ns : List ℕ) (i next : ℕ) (before now : WriterState) (old new : View) : Type 0 where
  pub copying : IsCopying p p before now (Ok next) old new
  pub adds : HasAdded p t (take i ns) next before now old new

none_more : (n : ℕ) → n ≡ n + 0
none_more n = omega arith

pub added_none : (p : PlotState) (t next : ℕ) (ns : List ℕ) (w : WriterState) (v : View) → IsStanding w v → w.least ≡ next → AddedSoFar p t ns 0 next w w v v
added_none p t next ns w v standing least = record {
  copying = copying_none p w next v standing;
  adds = record {
    sound = sound_none p t w.least;
    next_is = sym least ∙ least_none w.least;
    least = least;
    columns = refl;
    count = none_more w.count;
    goes = λ d s. subst (λ (e : Draft). Stands w e v) (sym (with_numbers-none d)) s;
  };
}

pub added_standing : (p : PlotState) (t : ℕ) (ns : List ℕ) (i next : ℕ) (u w : WriterState) (a b : View) → AddedSoFar p t ns i next u w a b → IsStanding u a → IsStanding w b
added_standing p t ns i next u w a b so_far (d, s) = (with_numbers (take i ns) d, so_far.adds.goes d s)

-- one number more in a list that was added
adds_more : (p : PlotState) (t : ℕ) (ns : List ℕ) (next number : ℕ) (u w x : WriterState) (a b c : View) → HasAdded p t ns next u w a b → PointsInside p t number → next ≤ number
    → x.columns ≡ w.columns → OneMore number w x → Goes (added number) w x b c → HasAdded p t (ns ++ number ∷ []) (number + 1) u x a c
adds_more p t ns next number u w x a b c h inside above columns one goes = record {
  sound = sound_more p t u.least ns number h.sound inside (subst (λ (m : ℕ). m ≤ number) h.next_is above);
  next_is = least_more u.least ns number;
  least = one.least;
  columns = columns ∙ h.columns;
  count =
      let more = one.count in
      let before = h.count in
      let sum : length (ns ++ number ∷ []) ≡ length ns + 1 = length-append ns (number ∷ []) in
      omega arith;
  goes = λ d s. subst (λ (e : Draft). Stands x e c) (with_numbers-append ns (number ∷ []) d) (goes (with_numbers ns d) (h.goes d s));
}

module _ (p : PlotState) (t : ℕ) (ns : List ℕ) (i next : ℕ) (u w : WriterState) (a b : View) (so_far : AddedSoFar p t ns i next u w a b) (inside : i < length ns) (number : ℕ)
    (is : number ≡ get_or ns i 0) where
  pub added_next : {X : Type 0} (y : X) (x : WriterState) (c : View) → IsStanding u a → PointsInside p t number → next ≤ number → Works IsShut w.file (Ok y) b c → SameFile w x
      → x.columns ≡ w.columns → OneMore number w x → Goes (added number) w x b c → AddedSoFar p t ns (i + 1) (number + 1) u x a c
  added_next y x c standing points above works file columns one goes = record {
    copying = copying_then p p p u w x next (Ok (number + 1)) a b c standing so_far.copying (work_copying p w x y (number + 1) b c works file);
    adds = subst (λ (xs : List ℕ). HasAdded p t xs (number + 1) u x a c) (sym (take_more ns i 0 inside ∙ ap (λ n. take i ns ++ n ∷ []) (sym is)))
        (adds_more p t (take i ns) next number u w x a b c so_far.adds points above columns one goes);
  }

  pub added_stop : (first : ℕ) (d : Damage) → NumberShows p t (first + i) next number d → IsListStop p t first u.least ns d
  added_stop first d shows = record {
    place = i;
    inside = inside;
    before = so_far.adds.sound;
    shows = subst (λ (n : ℕ). NumberShows p t (first + i) (least_after u.least (take i ns)) n d) is (subst (λ (m : ℕ). NumberShows p t (first + i) m number d) so_far.adds.next_is shows);
  }

  pub added_refused : {X Y : Type 0} (e : WorkFault) (x : WriterState) (result : Result Y ConvertFault) (c : View) → IsStanding u a → result ≡ Err (of_work e) → Works {X = X} IsShut w.file (Err e) b c → SameFile w x
      → IsCopying p p u x result a c
  added_refused e x result c standing same works file = copying_then p p p u w x next result a b c standing so_far.copying (work_refused p w x e result b c same works file)

  pub may_add : (first size : ℕ) → length w.columns < 7 → next ≤ number → number < 2 ^ (2 * size + 2) → w.size ≡ size → u.count ≡ first → first + length ns ≤ 2 ^ (size + 1) → MayAdd number w
  may_add first size tables above below same count fits = record {
    tables = tables;
    above = let least = so_far.adds.least in omega arith;
    below = subst (λ (k : ℕ). number < 2 ^ (2 * k + 2)) (sym same) below;
    few = subst (λ (k : ℕ). w.count < 2 ^ (k + 1)) (sym same) count_fits;
  }
    where
      count_fits : w.count < 2 ^ (size + 1)
      count_fits =
          let counted = so_far.adds.count in
          let part = length-take-le i ns (omega arith) in
          omega arith

-- all of them
pub added_all : (p : PlotState) (t : ℕ) (ns : List ℕ) (i next : ℕ) (u w : WriterState) (a b : View) → AddedSoFar p t ns i next u w a b → take i ns ≡ ns → HasAdded p t ns next u w a b
added_all p t ns i next u w a b so_far all = subst (λ (xs : List ℕ). HasAdded p t xs next u w a b) all so_far.adds

-- ---- sizes

pub small_number : (size n : ℕ) → size ≤ 50 → n < 2 ^ (2 * size + 2) → n + 1 < 2 ^ 128
small_number size n small below =
    let exponent : 2 * size + 2 ≤ 102 = omega arith in
    let most : 2 ^ (2 * size + 2) ≤ 2 ^ 102 = pow_mono exponent in
    omega arith

pub small_place : (size first n : ℕ) → size ≤ 50 → first + n ≤ 2 ^ (size + 1) → first + n < 2 ^ 63
small_place size first n small fits =
    let exponent : size + 1 ≤ 51 = omega arith in
    let most : 2 ^ (size + 1) ≤ 2 ^ 51 = pow_mono exponent in
    omega arith

pub small_count : (size n : ℕ) → size ≤ 50 → n ≤ 2 ^ (size + 1) → n < 2 ^ 63
small_count size n small fits =
    let exponent : size + 1 ≤ 51 = omega arith in
    let most : 2 ^ (size + 1) ≤ 2 ^ 51 = pow_mono exponent in
    omega arith
