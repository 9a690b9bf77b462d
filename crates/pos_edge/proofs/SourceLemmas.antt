-- What a take from memory gives.
use Rattle.std.proofs.Common.{ℕ, ◌≡◌, ◌≤◌, ◌+◌, ◌-◌, ◌^◌, List, length, take, drop, Some, sym, ap, subst, arith}
use Rattle.std.specs.Prelude.{min, slice_range}
use Rattle.std.proofs.lemmas.List.{length-drop, length-take-le}
use Rattle.std.proofs.lemmas.List.Folds.{drop_split}
use Rattle.pos_edge.specs.Faults.{raised}
use Rattle.pos_edge.specs.Sources.{IsTaken, behind}

count_of_front : (n : ℕ) (buf : List ℕ) → n ≤ length buf → length (take n buf) ≡ n
count_of_front n buf fits = length-take-le n buf fits

length_of_part : (bytes : List ℕ) (at n : ℕ) → at + n ≤ length bytes → length (slice_range bytes at (at + n)) ≡ n
length_of_part bytes at n fits =
    let size = length-drop at bytes in
    let wide : at + n - at ≡ n = omega arith in
    subst (λ m. length (take m (drop at bytes)) ≡ n) (sym wide) (length-take-le n (drop at bytes) (omega (arith, size)))

-- a front part of the bytes that were left stands in the buffer, and the others are left
pub taken_is : (bytes buf : List ℕ) (at n taken now faults : ℕ) → at + n ≤ length bytes → n ≤ length buf → take (length (slice_range bytes at (at + n))) buf ≡ slice_range bytes at (at + n)
    → now ≡ min (taken + n) (2 ^ 64 - 1) → taken ≤ 2 ^ 64 - 1
    → IsTaken (take n buf) (record { left = Some (drop at bytes); taken = taken; faults = faults }) (record { left = Some (drop (at + n) bytes); taken = now; faults = faults })
taken_is bytes buf at n taken now faults fits room filled count small = record {
  left =
      let front : take n buf ≡ slice_range bytes at (at + n) = subst (λ m. take m buf ≡ slice_range bytes at (at + n)) (length_of_part bytes at n fits) filled in
      subst (λ xs. Some (drop at bytes) ≡ behind xs (Some (drop (at + n) bytes))) (sym front) (ap (λ xs. Some xs) (drop_split bytes at (at + n) (omega arith)));
  count = subst (λ m. now ≡ raised taken m) (sym (count_of_front n buf room)) (omega arith);
}
