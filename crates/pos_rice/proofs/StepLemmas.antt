-- The codes of steps can be told apart from their front: what one list of numbers writes begins as what another one
-- writes only where the numbers are the same.
use Rattle.std.proofs.Common.{◌≡◌, ◌≢◌, ℕ, ◌+◌, ◌-◌, ◌/◌, ◌^◌, ◌<◌, ◌≤◌, Bool, false, List, [], ◌∷◌, ◌++◌, length, replicate, refl, ap, sym, ◌∙◌, arith, length-append, append_assoc}
use Rattle.std.specs.Prelude.{Option, Some, None, IfNone}
use Rattle.std.proofs.lemmas.List.{append-nil}
use Rattle.std.proofs.lemmas.Nat.{shr_below}
use Rattle.pos_bits.specs.Bits.{bits}
use Rattle.pos_bits.specs.Blocks.{length-bits}
use Rattle.pos_bits.proofs.BitsLemmas.{number-bits, bits-zero, number-replicate_false}
use Rattle.pos_bits.specs.Bits.{number}
use Rattle.pos_bits.specs.Codes.{code_bits}
use Rattle.pos_bits.proofs.CodeLemmas.{code_only}
use Rattle.pos_rice.specs.Park.{steps_bits}
use Rattle.pos_rice.specs.Steps.{RiseFrom, last_from}

-- of a number after n, the step back to it
back : (n x : ℕ) → n < x → n + (x - n - 1) + 1 ≡ x
back n x h = omega arith

-- steps of as many numbers that begin one list are the same, and so is what follows
pub steps_only : (low limit n : ℕ) (xs ms : List ℕ) (s t : List Bool) → RiseFrom limit n xs → RiseFrom limit n ms → length xs ≡ length ms →
    steps_bits low n xs ++ s ≡ steps_bits low n ms ++ t → (xs ≡ ms) × (s ≡ t)
unfolding steps_bits
steps_only low limit n [] [] s t p q l e = (refl, e)
steps_only low limit n [] (m ∷ ms) s t p q l e = absurd (omega arith)
steps_only low limit n (x ∷ xs) [] s t p q l e = absurd (omega arith)
steps_only low limit n (x ∷ xs) (m ∷ ms) s t p q l e =
    let step : (x - n - 1 ≡ m - n - 1) × (steps_bits low x xs ++ s ≡ steps_bits low m ms ++ t) =
    code_only low (x - n - 1) (m - n - 1) (steps_bits low x xs ++ s) (steps_bits low m ms ++ t)
    (sym (append_assoc (code_bits low (x - n - 1)) (steps_bits low x xs) s) ∙ (e ∙ append_assoc (code_bits low (m - n - 1)) (steps_bits low m ms) t)) in
    let same : x ≡ m = omega (arith, back n x p.0, back n m q.0, step.0) in
    let rest : (xs ≡ ms) × (s ≡ t) =
    steps_only low limit x xs ms s t p.2 (rw same q.2) (omega arith) (step.1 ∙ ap (λ y. steps_bits low y ms ++ t) (sym same)) in
    (cc, rest.1)

-- where the steps of some numbers begin as those of more numbers, none of these above a limit, a step of these comes next
pub record MayCome (low limit : ℕ) (s : List Bool) : Type 0 where
  pub step : ℕ
  pub rest : List Bool
  pub few : step ≤ limit
  pub begins : s ≡ code_bits low step ++ rest

pub steps_begin : (low big limit n : ℕ) (xs ms : List ℕ) (s t : List Bool) → RiseFrom big n xs → RiseFrom limit n ms → length xs < length ms →
    steps_bits low n xs ++ s ≡ steps_bits low n ms ++ t → MayCome low limit s
unfolding steps_bits
steps_begin low big limit n xs [] s t p q l e = absurd (omega arith)
steps_begin low big limit n [] (m ∷ ms) s t p q l e =
    record { step = m - n - 1; rest = steps_bits low m ms ++ t; few = omega (arith, q.1); begins = e ∙ append_assoc (code_bits low (m - n - 1)) (steps_bits low m ms) t }
steps_begin low big limit n (x ∷ xs) (m ∷ ms) s t p q l e =
    let step : (x - n - 1 ≡ m - n - 1) × (steps_bits low x xs ++ s ≡ steps_bits low m ms ++ t) =
    code_only low (x - n - 1) (m - n - 1) (steps_bits low x xs ++ s) (steps_bits low m ms ++ t)
    (sym (append_assoc (code_bits low (x - n - 1)) (steps_bits low x xs) s) ∙ (e ∙ append_assoc (code_bits low (m - n - 1)) (steps_bits low m ms) t)) in
    let same : x ≡ m = omega (arith, back n x p.0, back n m q.0, step.0) in
    steps_begin low big limit x xs ms s t p.2 (rw same q.2) (omega arith) (step.1 ∙ ap (λ y. steps_bits low y ms ++ t) (sym same))

-- the steps of one more number
pub steps-push : (low n : ℕ) (xs : List ℕ) (x : ℕ) → steps_bits low n (xs ++ x ∷ []) ≡ steps_bits low n xs ++ code_bits low (x - last_from n xs - 1)
unfolding steps_bits
steps-push low n [] x = append-nil (code_bits low (x - n - 1))
steps-push low n (y ∷ xs) x = rw (steps-push low y xs x) (sym (append_assoc (code_bits low (y - n - 1)) (steps_bits low y xs) (code_bits low (x - last_from y xs - 1))))

pub last_from-push : (n : ℕ) (xs : List ℕ) (x : ℕ) → last_from n (xs ++ x ∷ []) ≡ x
last_from-push n [] x = refl
last_from-push n (y ∷ xs) x = last_from-push y xs x

pub RiseFrom-push : (limit n : ℕ) (xs : List ℕ) (x : ℕ) → RiseFrom limit n xs → last_from n xs < x → x ≤ limit → RiseFrom limit n (xs ++ x ∷ [])
RiseFrom-push limit n [] x h p q = (p, q, tt)
RiseFrom-push limit n (y ∷ xs) x h p q = (h.0, h.1, RiseFrom-push limit y xs x h.2 p q)

pub last_from-le : (limit n : ℕ) (xs : List ℕ) → n ≤ limit → RiseFrom limit n xs → last_from n xs ≤ limit
last_from-le limit n [] h p = h
last_from-le limit n (x ∷ xs) h p = last_from-le limit x xs p.1 p.2

pub le-last_from : (limit n : ℕ) (xs : List ℕ) → RiseFrom limit n xs → n + length xs ≤ last_from n xs
le-last_from limit n [] p = omega arith
le-last_from limit n (x ∷ xs) p = omega (arith, p.0, le-last_from limit x xs p.2)

pub RiseFrom-mono : (limit limit' n : ℕ) (xs : List ℕ) → limit ≤ limit' → RiseFrom limit n xs → RiseFrom limit' n xs
RiseFrom-mono limit limit' n [] h p = tt
RiseFrom-mono limit limit' n (x ∷ xs) h p = (p.0, omega (arith, p.1), RiseFrom-mono limit limit' x xs h p.2)

pub RiseFrom-last : (limit n : ℕ) (xs : List ℕ) → RiseFrom limit n xs → RiseFrom (last_from n xs) n xs
RiseFrom-last limit n [] p = tt
RiseFrom-last limit n (x ∷ xs) p = (p.0, omega (arith, le-last_from limit x xs p.2), RiseFrom-last limit x xs p.2)

pub IfNone-holds : {X : Type 0} {P : Type 0} (r : Option X) → P → IfNone r P
IfNone-holds None p = p
IfNone-holds (Some x) p = tt

-- ---- the loops that read and write steps

-- no steps at all, with what follows them
pub steps_none : (low n : ℕ) (s : List Bool) → steps_bits low n [] ++ s ≡ s
unfolding steps_bits
steps_none low n s = refl

module _ (low big first last : ℕ) (xs : List ℕ) (b r : List Bool) (read : b ≡ steps_bits low first xs ++ r) (rise : RiseFrom big first xs) (last_is : last ≡ last_from first xs) where
  -- where no step up to a limit comes next, no more numbers up to it have these bits
  pub no_more : (limit : ℕ) → ((step : ℕ) (s : List Bool) → step ≤ limit → r ≢ code_bits low step ++ s) → (ms : List ℕ) (s : List Bool) → length xs < length ms → RiseFrom limit first ms → b ≢ steps_bits low first ms ++ s
  no_more limit none ms s l p e =
      let next : MayCome low limit r = steps_begin low big limit first xs ms r s rise p l (sym read ∙ e) in
      none next.step next.rest next.few next.begins

  -- where the last of the numbers is above a limit, none up to it have these bits
  pub too_far : (limit : ℕ) → limit ≤ big → first ≤ limit → limit < last → (ms : List ℕ) (s : List Bool) → length xs ≡ length ms → RiseFrom limit first ms → b ≢ steps_bits low first ms ++ s
  too_far limit within start far ms s l p e =
      let same = steps_only low big first xs ms r s rise (RiseFrom-mono limit big first ms within p) l (sym read ∙ e) in
      let near : last_from first ms ≤ limit = last_from-le limit first ms start p in
      omega (arith, far, last_is, near, ap (last_from first) same.0)

  -- and where it is not, none of the numbers is
  pub all_near : (limit : ℕ) → last ≤ limit → RiseFrom limit first xs
  all_near limit near = RiseFrom-mono (last_from first xs) limit first xs (omega (arith, near, last_is)) (RiseFrom-last big first xs rise)

  -- one more step
  pub one_more : (step : ℕ) (r' : List Bool) → r ≡ code_bits low step ++ r' → step < big - last →
      (b ≡ steps_bits low first (xs ++ (last + (step + 1)) ∷ []) ++ r') × RiseFrom big first (xs ++ (last + (step + 1)) ∷ []) × (last + (step + 1) ≡ last_from first (xs ++ (last + (step + 1)) ∷ []))
  one_more step r' e below =
      let back_again : last + (step + 1) - last_from first xs - 1 ≡ step = omega arith in
      let more : steps_bits low first (xs ++ (last + (step + 1)) ∷ []) ≡ steps_bits low first xs ++ code_bits low step =
      steps-push low first xs (last + (step + 1)) ∙ ap (λ x. steps_bits low first xs ++ code_bits low x) back_again in (
        read ∙ (ap (λ x. steps_bits low first xs ++ x) e ∙ (sym (append_assoc (steps_bits low first xs) (code_bits low step) r') ∙ ap (λ x. x ++ r') (sym more))),
        RiseFrom-push big first xs (last + (step + 1)) rise (omega arith) (omega arith),
        sym (last_from-push first xs (last + (step + 1))),
      )

-- the code of one more number, as a writer puts it
pub put_more : (low first before x : ℕ) (xs : List ℕ) (w0 w w1 : List Bool) → w ≡ w0 ++ steps_bits low first xs → before ≡ last_from first xs →
    w1 ≡ w ++ code_bits low (x - before - 1) → w1 ≡ w0 ++ steps_bits low first (xs ++ x ∷ [])
put_more low first before x xs w0 w w1 written at put =
    let d : ℕ = x - before - 1 in
    let more : steps_bits low first (xs ++ x ∷ []) ≡ steps_bits low first xs ++ code_bits low d =
    steps-push low first xs x ∙ ap (λ y. steps_bits low first xs ++ code_bits low (x - y - 1)) (sym at) in
    put ∙ (ap (λ y. y ++ code_bits low d) written ∙ (append_assoc w0 (steps_bits low first xs) (code_bits low d) ∙ ap (λ y. w0 ++ y) (sym more)))

length-zero : (s : List Bool) → length s ≡ 0 → s ≡ []
length-zero [] h = refl
length-zero (x ∷ s) h = absurd (omega arith)

-- the high part of a step that is not too long fits a word
pub high_fits : (low before first x : ℕ) (ms : List ℕ) → first ≤ before → RiseFrom (first + 2 ^ (63 + low)) before (x ∷ ms) → (x - before - 1) / 2 ^ low < 2 ^ 63
high_fits low before first x ms p h = shr_below (x - before - 1) 63 low (omega (arith, h.0, h.1))

-- ---- the bits that fill the last byte

pub fill_zero : (value left : ℕ) (b s : List Bool) → left ≡ length b → left < 8 → value < 2 ^ left → b ≡ bits value left ++ s → (value ≡ 0 → (n : ℕ) × (n < 8) × (b ≡ replicate n false)) × (((n : ℕ) × (n < 8) × (b ≡ replicate n false)) → value ≡ 0)
fill_zero value left b s l small below e = (there, back_from)
  where
    whole : b ≡ bits value left
    whole =
        let lengths : length b ≡ length (bits value left) + length s = ap length e ∙ length-append (bits value left) s in
        let empty : s ≡ [] = nil-of (omega (arith, lengths, length-bits value left)) in
        e ∙ (ap (λ x. bits value left ++ x) empty ∙ append-nil (bits value left))
      where
        nil-of : length s ≡ 0 → s ≡ []
        nil-of h = length-zero s h

    there : value ≡ 0 → (n : ℕ) × (n < 8) × (b ≡ replicate n false)
    there h = (left, small, whole ∙ (ap (λ x. bits x left) h ∙ bits-zero left))

    back_from : ((n : ℕ) × (n < 8) × (b ≡ replicate n false)) → value ≡ 0
    back_from h =
        let zero_number : number b ≡ 0 = ap number h.2 ∙ number-replicate_false h.0 in
        sym (number-bits value left below) ∙ (sym (ap number whole) ∙ zero_number)
