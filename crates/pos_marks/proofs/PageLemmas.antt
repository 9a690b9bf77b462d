-- Pages written from the start of a file on.
use Rattle.std.proofs.Common.{◌≡◌, ℕ, ◌+◌, ◌*◌, ◌≤◌, true, List, ◌++◌, length, take, drop, is_some, refl, sym, ap, ◌∙◌, arith, length-append}
use Rattle.std.proofs.lemmas.List.{take_at, take-take, take-append-drop, length-take-le}
use Rattle.std.proofs.lemmas.List.Edits.{length-between}
use Rattle.std.proofs.lemmas.Slice.{between_is}
use Rattle.std.proofs.lemmas.Option.{same_Some}
use Rattle.std.specs.Prelude.{slice_range}
use Rattle.pos_edge.specs.View.{View, IsDisk}
use Rattle.pos_edge.specs.Frame.{ChangesFile, KeepsIds, NameOf, Nothing, Just}
use Rattle.pos_edge.specs.Images.{written}
use Rattle.pos_edge.specs.Calls.{IsThere, IsWritten}
use Rattle.pos_edge.proofs.Frames.{frame_none, file_then}
use Rattle.pos_marks.specs.Pages.{BeginsWith}

pub ids_none : (v : View) → KeepsIds Nothing v v
ids_none v = record { live = λ f k. refl; name = λ f k. refl }

pub ids_then : (a b c : View) → KeepsIds Nothing a b → KeepsIds Nothing b c → KeepsIds Nothing a c
ids_then a b c p q = record { live = λ f k. q.live f k ∙ p.live f k; name = λ f k. q.name f k ∙ p.name f k }

pub still_there : (file : ℕ) (a b : View) → b.tells ≡ a.tells → b.name_of file ≡ a.name_of file → IsThere file a → IsThere file b
still_there file a b tells name there = λ t. ap is_some name ∙ there (sym tells ∙ t)

-- The first n pages of these bytes stand in the file, and nothing else was changed.
pub record WrittenTo (file n : ℕ) (bytes : List ℕ) (old new : View) : Type 0 where
  pub kept : ChangesFile file old new
  pub ids : KeepsIds Nothing old new
  pub reads : new.reads ≡ old.reads
  pub quiet : new.faults ≡ old.faults
  pub size : 65536 * n ≤ new.size_of file
  pub front : BeginsWith file (take (65536 * n) bytes) new

pub written_none : (file : ℕ) (bytes : List ℕ) (v : View) → v.is_live file ≡ true → WrittenTo file 0 bytes v v
written_none file bytes v live = record {
  kept = record { frame = frame_none (NameOf file v) (Just file) v; live = live; name = refl; grows = omega arith };
  ids = ids_none v;
  reads = refl;
  quiet = refl;
  size = omega arith;
  front = λ name kept is has. refl;
}

-- a part behind a front
front_and_part : (bytes : List ℕ) (at n : ℕ) → at + n ≤ length bytes → take at bytes ++ slice_range bytes at (at + n) ≡ take (at + n) bytes
front_and_part bytes at n fits =
    let e : take at (take (at + n) bytes) ≡ take at bytes = take-take at (at + n) bytes (omega arith) in
    ap (λ xs. take at bytes ++ xs) (between_is bytes at (at + n)) ∙ (ap (λ xs. xs ++ drop at (take (at + n) bytes)) (sym e) ∙ take-append-drop at (take (at + n) bytes))

written_front : (at n : ℕ) (piece bytes held : List ℕ) → at + n ≤ length bytes → at ≤ length held → piece ≡ slice_range bytes at (at + n)
    → take at held ≡ take at bytes → take (at + n) (written at piece held) ≡ take (at + n) bytes
written_front at n piece bytes held fits within is same =
    let front : length (take at held) ≡ at = length-take-le at held within in
    let len : length piece ≡ n = ap length is ∙ (length-between bytes at (at + n) fits ∙ omega arith) in
    let both : length (take at held ++ piece) ≡ at + n = length-append (take at held) piece ∙ omega arith in
    take_at (take at held ++ piece) (drop (at + length piece) held) (at + n) both
    ∙ (ap (λ xs. xs ++ piece) same ∙ (ap (λ xs. take at bytes ++ xs) is ∙ front_and_part bytes at n fits))

-- one page more
pub written_more : (file n : ℕ) (bytes piece : List ℕ) (a b c : View) → IsDisk b → 65536 * (n + 1) ≤ length bytes → WrittenTo file n bytes a b → a.is_live file ≡ true
    → piece ≡ slice_range bytes (n * 65536) (n * 65536 + 65536) → ChangesFile file b c → KeepsIds Nothing b c → c.reads ≡ b.reads → c.faults ≡ b.faults → IsWritten file (n * 65536) piece b c
    → WrittenTo file (n + 1) bytes a c
written_more file n bytes piece a b c disk fits h live is kept ids reads quiet wrote = record {
  kept = file_then file a b c live h.kept kept;
  ids = ids_then a b c h.ids ids;
  reads = reads ∙ h.reads;
  quiet = quiet ∙ h.quiet;
  size =
      let len : length piece ≡ 65536 = ap length is ∙ (length-between bytes (n * 65536) (n * 65536 + 65536) (omega arith) ∙ omega arith) in
      let s = wrote.size in
      omega arith;
  front = λ name held named has.
      let at = n * 65536 in
      let named_b : NameOf file b name = sym kept.name ∙ named in
      let there = (disk.named file name named_b).there in
      let size = h.size in
      let within : at ≤ length there.0 = omega (arith, there.2) in
      let e : held ≡ written at piece there.0 = same_Some held (written at piece there.0) (sym has ∙ wrote.contents name there.0 named_b there.1) in
      let m : 65536 * n ≡ at = omega arith in
      let len : length (take (65536 * n) bytes) ≡ at = length-take-le (65536 * n) bytes (omega arith) ∙ m in
      let was : take at there.0 ≡ take at bytes =
      ap (λ k. take k there.0) (sym len) ∙ (h.front name there.0 named_b there.1 ∙ ap (λ k. take k bytes) m) in
      let more : 65536 * (n + 1) ≡ at + 65536 = omega arith in
      let full : length (take (65536 * (n + 1)) bytes) ≡ at + 65536 = length-take-le (65536 * (n + 1)) bytes fits ∙ more in
      ap (λ k. take k held) full ∙ (ap (take (at + 65536)) e ∙ (written_front at 65536 piece bytes there.0 (omega arith) within is was ∙ ap (λ k. take k bytes) (sym more)));
}
