-- Header and entries, between bytes and fields.
use Rattle.std.proofs.Common.{◌≡◌, ℕ, zero, suc, ◌+◌, ◌*◌, ◌%◌, ◌^◌, ◌<◌, ◌≤◌, leb, eqb, ◌&&◌, Bool, true, false, List, [], ◌∷◌, ◌++◌, length, take, drop, get_or, replicate, Option, Some, None, refl, sym, ap, ◌∙◌, arith, append_assoc, append-nil}
use Rattle.std.proofs.lemmas.List.{get_or-take, get_or-drop, take_all, length-take, length-drop, drop_more, take_more}
use Rattle.std.proofs.lemmas.Nat.{one_shl}
use Rattle.std.specs.Int.{w16, w32, w64, to_be_bytes}
use Rattle.pos_layout.specs.declared.header.Column.{Column}
use Rattle.pos_layout.specs.declared.header.Header.{Header}
use Rattle.pos_layout.specs.declared.entry.ParkEntry.{ParkEntry}
use Rattle.pos_layout.specs.Bytes.{part, two, four, eight, two_at}
use Rattle.pos_layout.specs.Layouts.{Layout, name_of, memo_of}
use Rattle.std.specs.List.{list_all}
use Rattle.std.specs.Str.{bytes_eq}
use Rattle.pos_layout.specs.declared.damage.HeaderField.{HeaderField}
use Rattle.pos_layout.specs.declared.damage.HeaderField.TheVariants.{Name, Size, Zeros, Memo, Counts}
use Rattle.pos_layout.specs.declared.header.TheConstants.{LEAST_SIZE, GREATEST_SIZE}
use Rattle.pos_layout.specs.Damages.{unless, first_found, header_fault}
use Rattle.pos_layout.specs.Fields.{column_bytes, columns_bytes, entry_fields, header_bytes, header_in, name_in, zeros_in}

-- ---- parts

pub part-get : {X : Type 0} (xs : List X) (at n i : ℕ) (d : X) → i < n → get_or (part xs at n) i d ≡ get_or xs (at + i) d
unfolding part
part-get xs at n i d h = get_or-take n (drop at xs) i d h ∙ get_or-drop at xs i d

pub length-part : {X : Type 0} (xs : List X) (at n : ℕ) → at + n ≤ length xs → length (part xs at n) ≡ n
unfolding part
length-part xs at n h = simp (length-take, length-drop) (omega arith)

-- so many elements of a list, one by one
pub listed : List ℕ → ℕ → ℕ → List ℕ
listed xs at zero = []
listed xs at (suc n) = get_or xs at 0 ∷ listed xs (at + 1) n

listed-is : (xs : List ℕ) (at n : ℕ) → at + n ≤ length xs → part xs at n ≡ listed xs at n
unfolding part listed
listed-is xs at zero h = refl
listed-is xs at (suc n) h = ap (take (suc n)) (drop_more xs at 0 (omega arith)) ∙ ap (λ s. get_or xs at 0 ∷ s) (listed-is xs (at + 1) n (omega arith))

eight_elements : (xs : List ℕ) (at : ℕ) → listed xs at 8 ≡ get_or xs at 0 ∷ get_or xs (at + 1) 0 ∷ get_or xs (at + 2) 0 ∷ get_or xs (at + 3) 0 ∷ get_or xs (at + 4) 0 ∷ get_or xs (at + 5) 0 ∷ get_or xs (at + 6) 0 ∷ get_or xs (at + 7) 0 ∷ []
unfolding listed
eight_elements xs at =
    let e2 : at + 1 + 1 ≡ at + 2 = omega arith in
    let e3 : at + 2 + 1 ≡ at + 3 = omega arith in
    let e4 : at + 3 + 1 ≡ at + 4 = omega arith in
    let e5 : at + 4 + 1 ≡ at + 5 = omega arith in
    let e6 : at + 5 + 1 ≡ at + 6 = omega arith in
    let e7 : at + 6 + 1 ≡ at + 7 = omega arith in
    rw (e2, e3, e4, e5, e6, e7) refl

four_elements : (xs : List ℕ) (at : ℕ) → listed xs at 4 ≡ get_or xs at 0 ∷ get_or xs (at + 1) 0 ∷ get_or xs (at + 2) 0 ∷ get_or xs (at + 3) 0 ∷ []
unfolding listed
four_elements xs at =
    let e2 : at + 1 + 1 ≡ at + 2 = omega arith in
    let e3 : at + 2 + 1 ≡ at + 3 = omega arith in
    rw (e2, e3) refl

pub part-eight : (xs : List ℕ) (at : ℕ) → at + 8 ≤ length xs → part xs at 8 ≡ get_or xs at 0 ∷ get_or xs (at + 1) 0 ∷ get_or xs (at + 2) 0 ∷ get_or xs (at + 3) 0 ∷ get_or xs (at + 4) 0 ∷ get_or xs (at + 5) 0 ∷ get_or xs (at + 6) 0 ∷ get_or xs (at + 7) 0 ∷ []
part-eight xs at h = listed-is xs at 8 h ∙ eight_elements xs at

pub part-two : (xs : List ℕ) (at : ℕ) → at + 2 ≤ length xs → part xs at 2 ≡ get_or xs at 0 ∷ get_or xs (at + 1) 0 ∷ []
unfolding listed
part-two xs at h = listed-is xs at 2 h

pub part-four : (xs : List ℕ) (at : ℕ) → at + 4 ≤ length xs → part xs at 4 ≡ get_or xs at 0 ∷ get_or xs (at + 1) 0 ∷ get_or xs (at + 2) 0 ∷ get_or xs (at + 3) 0 ∷ []
part-four xs at h = listed-is xs at 4 h ∙ four_elements xs at

-- ---- as they are written

-- one piece after another from the front on
pub put_next : (at n m next : ℕ) (x piece w v : List ℕ) → take n w ≡ x → take (at + length piece) v ≡ take at w ++ piece → at ≡ n → length piece ≡ m → n + m ≡ next
    → take next v ≡ x ++ piece
put_next at n m next x piece w v was put e f g =
    let h : at + length piece ≡ next = omega arith in
    ap (λ j. take j v) (sym h) ∙ (put ∙ (ap (λ j. take j w ++ piece) e ∙ ap (λ y. y ++ piece) was))

pub put_first : (m next : ℕ) (piece v : List ℕ) → take (0 + length piece) v ≡ piece → length piece ≡ m → m ≡ next → take next v ≡ piece
put_first m next piece v put e f =
    let h : 0 + length piece ≡ next = omega arith in ap (λ j. take j v) (sym h) ∙ put

pub whole : (n : ℕ) (x v : List ℕ) → length v ≡ n → take n v ≡ x → v ≡ x
whole n x v e t = sym (take_all n v (omega arith)) ∙ t

pub entry_fields-is : (e : ParkEntry) (a b c d f : List ℕ) → a ≡ to_be_bytes w64 e.offset → b ≡ to_be_bytes w32 e.park_length → c ≡ to_be_bytes w32 e.count → d ≡ e.digest → f ≡ to_be_bytes w64 e.head
    → (((a ++ b) ++ c) ++ d) ++ f ≡ entry_fields e
unfolding entry_fields four eight
entry_fields-is e a b c d f ea eb ec ed ef = simp append_assoc (rw (ea, eb, ec, ed, ef) refl)

-- entries of equal fields
pub entry_from : (o o' : ℕ) (p p' c c' : ℕ) (d d' : List ℕ) (h h' : ℕ) → o ≡ o' → p ≡ p' → c ≡ c' → d ≡ d' → h ≡ h'
    → ◌≡◌ {A = ParkEntry} (record { offset = o; park_length = p; count = c; digest = d; head = h }) (record { offset = o'; park_length = p'; count = c'; digest = d'; head = h' })
entry_from o o' p p' c c' d d' h h' eo ep ec ed eh = rw (eo, ep, ec, ed, eh) refl

pub column_from : (c c' d d' : ℕ) → c ≡ c' → d ≡ d' → ◌≡◌ {A = Column} (record { count = c; directory = d }) (record { count = c'; directory = d' })
column_from c c' d d' ec ed = rw (ec, ed) refl

pub column_bytes-is : (c : Column) (x a b : List ℕ) → a ≡ to_be_bytes w64 c.count → b ≡ to_be_bytes w64 c.directory → (x ++ a) ++ b ≡ x ++ column_bytes c
unfolding column_bytes eight
column_bytes-is c x a b ea eb = append_assoc x a b ∙ ap (λ y. x ++ y) (rw (ea, eb) refl)

-- two pieces after a place
pub column_put : (at next : ℕ) (c : Column) (a b u v w : List ℕ) → a ≡ to_be_bytes w64 c.count → b ≡ to_be_bytes w64 c.directory → at + 16 ≡ next
    → take (at + length a) v ≡ take at u ++ a → take (at + 8 + length b) w ≡ take (at + 8) v ++ b → take next w ≡ take at u ++ column_bytes c
column_put at next c a b u v w ea eb e p q =
    let n1 = put_next at at 8 (at + 8) (take at u) a u v refl p refl (ap length ea) refl in
    put_next (at + 8) (at + 8) 8 next (take at u ++ a) b v w n1 q refl (ap length eb) (omega arith) ∙ column_bytes-is c (take at u) a b ea eb

columns_bytes-push : (cs : List Column) (c : Column) → columns_bytes (cs ++ c ∷ []) ≡ columns_bytes cs ++ column_bytes c
unfolding columns_bytes
columns_bytes-push [] c = append-nil (column_bytes c)
columns_bytes-push (d ∷ cs) c = ap (λ y. column_bytes d ++ y) (columns_bytes-push cs c) ∙ sym (append_assoc (column_bytes d) (columns_bytes cs) (column_bytes c))

-- one column more
pub columns_more : (i at : ℕ) (cs : List Column) (d : Column) (x u v : List ℕ) → i < length cs → at ≡ 56 + 16 * i
    → take (at + 16) v ≡ take at u ++ column_bytes (get_or cs i d)
    → take (56 + 16 * i) u ≡ x ++ columns_bytes (take i cs) → take (56 + 16 * (i + 1)) v ≡ x ++ columns_bytes (take (i + 1) cs)
columns_more i at cs d x u v h e put was =
    let c = get_or cs i d in
    let n : at + 16 ≡ 56 + 16 * (i + 1) = omega arith in
    let more : columns_bytes (take (i + 1) cs) ≡ columns_bytes (take i cs) ++ column_bytes c = ap columns_bytes (take_more cs i d h) ∙ columns_bytes-push (take i cs) c in
    ap (λ j. take j v) (sym n) ∙ (put ∙ (ap (λ j. take j u ++ column_bytes c) e ∙ (ap (λ y. y ++ column_bytes c) was ∙ (append_assoc x (columns_bytes (take i cs)) (column_bytes c) ∙ ap (λ y. x ++ y) (sym more)))))

pub columns_none : (cs : List Column) (x : List ℕ) → x ≡ x ++ columns_bytes (take 0 cs)
unfolding columns_bytes
columns_none cs x = sym (append-nil x)

pub columns_all : (cs : List Column) (x v : List ℕ) (i : ℕ) → length cs ≡ 7 → i ≡ 7 → take (56 + 16 * i) v ≡ x ++ columns_bytes (take i cs) → take 168 v ≡ x ++ columns_bytes cs
columns_all cs x v i e f h =
    let n : 56 + 16 * i ≡ 168 = omega arith in
    ap (λ j. take j v) (sym n) ∙ (h ∙ ap (λ y. x ++ columns_bytes y) (take_all i cs (omega arith)))

pub header_bytes-is : (l : Layout) (h : Header) (n m z f : List ℕ) (k : ℕ) → n ≡ name_of l → k ≡ h.size → m ≡ to_be_bytes w16 h.memo_length → z ≡ replicate 5 0 → f ≡ to_be_bytes w64 h.file_length
    → (((((((0 ∷ []) ++ n) ++ h.id.0) ++ (k ∷ [])) ++ m) ++ z) ++ columns_bytes h.columns) ++ f ≡ header_bytes l 0 h
unfolding header_bytes two eight
header_bytes-is l h n m z f k en ek em ez ef = simp append_assoc (rw (en, ek, em, ez, ef) refl)

-- ---- the tests

pub first_fails : {D : Type 0} (test : Bool) (d : D) (tests : List (Option D)) → test ≡ false → first_found (unless test d ∷ tests) ≡ Some d
first_fails test d tests e = rw e refl

pub first_holds : {D : Type 0} (test : Bool) (d : D) (tests : List (Option D)) → test ≡ true → first_found (unless test d ∷ tests) ≡ first_found tests
first_holds test d tests e = rw e refl

pub skip : {D : Type 0} (test : Bool) (d : D) (tests : List (Option D)) (o : Option D) → test ≡ true → first_found tests ≡ o → first_found (unless test d ∷ tests) ≡ o
skip test d tests o e f = first_holds test d tests e ∙ f

-- what the tests of a header find, by their answers
pub fault_name : (l : Layout) (b : List ℕ) → bytes_eq (name_in b) (name_of l) ≡ false → header_fault l b ≡ Some Name
unfolding header_fault
fault_name l b n = first_fails _ _ _ n

pub fault_size : (l : Layout) (b : List ℕ) (k : ℕ) → k ≡ get_or b 48 0 → bytes_eq (name_in b) (name_of l) ≡ true → (leb LEAST_SIZE k && leb k GREATEST_SIZE) ≡ false → header_fault l b ≡ Some Size
unfolding header_fault header_in
fault_size l b k e n s = skip _ _ _ _ n (first_fails _ _ _ (ap (λ k. leb LEAST_SIZE k && leb k GREATEST_SIZE) (sym e) ∙ s))

pub fault_zeros : (l : Layout) (b z : List ℕ) (k : ℕ) → k ≡ get_or b 48 0 → z ≡ zeros_in l b → bytes_eq (name_in b) (name_of l) ≡ true → (leb LEAST_SIZE k && leb k GREATEST_SIZE) ≡ true
    → list_all (λ x. eqb x 0) z ≡ false → header_fault l b ≡ Some Zeros
unfolding header_fault header_in
fault_zeros l b z k e f n s t =
    skip _ _ _ _ n (skip _ _ _ _ (ap (λ k. leb LEAST_SIZE k && leb k GREATEST_SIZE) (sym e) ∙ s) (first_fails _ _ _ (ap (list_all (λ x. eqb x 0)) (sym f) ∙ t)))

-- the tests after the zeros, by those up to them
fault_later : (l : Layout) (b z : List ℕ) (k : ℕ) (o : Option HeaderField) → k ≡ get_or b 48 0 → z ≡ zeros_in l b
    → bytes_eq (name_in b) (name_of l) ≡ true → (leb LEAST_SIZE k && leb k GREATEST_SIZE) ≡ true → list_all (λ x. eqb x 0) z ≡ true
    → first_found (unless (leb (two_at b 49) (memo_of l)) Memo ∷ unless (list_all (λ (c : Column). leb c.count (2 ^ (get_or b 48 0 + 1))) (header_in b).columns) Counts ∷ []) ≡ o → header_fault l b ≡ o
unfolding header_fault header_in
fault_later l b z k o e f n s t r =
    skip _ _ _ _ n (skip _ _ _ _ (ap (λ k. leb LEAST_SIZE k && leb k GREATEST_SIZE) (sym e) ∙ s) (skip _ _ _ _ (ap (list_all (λ x. eqb x 0)) (sym f) ∙ t) r))

pub fault_memo : (l : Layout) (b z : List ℕ) (k : ℕ) → k ≡ get_or b 48 0 → z ≡ zeros_in l b → bytes_eq (name_in b) (name_of l) ≡ true → (leb LEAST_SIZE k && leb k GREATEST_SIZE) ≡ true
    → list_all (λ x. eqb x 0) z ≡ true → leb (two_at b 49) (memo_of l) ≡ false → header_fault l b ≡ Some Memo
fault_memo l b z k e f n s t u = fault_later l b z k (Some Memo) e f n s t (first_fails _ _ _ u)

fault_rest : (l : Layout) (b z : List ℕ) (k most : ℕ) (cs : List Column) (o : Option HeaderField) → k ≡ get_or b 48 0 → z ≡ zeros_in l b → cs ≡ (header_in b).columns → most ≡ 2 ^ (k + 1)
    → bytes_eq (name_in b) (name_of l) ≡ true → (leb LEAST_SIZE k && leb k GREATEST_SIZE) ≡ true → list_all (λ x. eqb x 0) z ≡ true → leb (two_at b 49) (memo_of l) ≡ true
    → first_found (unless (list_all (λ (c : Column). leb c.count most) cs) Counts ∷ []) ≡ o → header_fault l b ≡ o
fault_rest l b z k most cs o e f g h n s t m r =
    fault_later l b z k o e f n s t (skip _ _ _ _ m
    (ap (λ m. first_found (unless (list_all (λ (c : Column). leb c.count m) (header_in b).columns) Counts ∷ [])) (ap (λ j. 2 ^ (j + 1)) (sym e) ∙ sym h)
    ∙ (ap (λ ds. first_found (unless (list_all (λ (c : Column). leb c.count most) ds) Counts ∷ [])) (sym g) ∙ r)))

pub fault_counts : (l : Layout) (b z : List ℕ) (k most : ℕ) (cs : List Column) → k ≡ get_or b 48 0 → z ≡ zeros_in l b → cs ≡ (header_in b).columns → most ≡ 2 ^ (k + 1)
    → bytes_eq (name_in b) (name_of l) ≡ true → (leb LEAST_SIZE k && leb k GREATEST_SIZE) ≡ true → list_all (λ x. eqb x 0) z ≡ true → leb (two_at b 49) (memo_of l) ≡ true
    → list_all (λ (c : Column). leb c.count most) cs ≡ false → header_fault l b ≡ Some Counts
fault_counts l b z k most cs e f g h n s t m u = fault_rest l b z k most cs (Some Counts) e f g h n s t m (first_fails _ _ _ u)

pub fault_none : (l : Layout) (b z : List ℕ) (k most : ℕ) (cs : List Column) → k ≡ get_or b 48 0 → z ≡ zeros_in l b → cs ≡ (header_in b).columns → most ≡ 2 ^ (k + 1)
    → bytes_eq (name_in b) (name_of l) ≡ true → (leb LEAST_SIZE k && leb k GREATEST_SIZE) ≡ true → list_all (λ x. eqb x 0) z ≡ true → leb (two_at b 49) (memo_of l) ≡ true
    → list_all (λ (c : Column). leb c.count most) cs ≡ true → header_fault l b ≡ None
fault_none l b z k most cs e f g h n s t m u = fault_rest l b z k most cs None e f g h n s t m (first_holds _ _ [] u)

pub header_from : (l l' : Layout) (i i' : List ℕ) (k k' m m' : ℕ) (cs cs' : List Column) (n n' : ℕ) → l ≡ l' → i ≡ i' → k ≡ k' → m ≡ m' → cs ≡ cs' → n ≡ n'
    → ◌≡◌ {A = Header} (record { layout = l; id = record { 0 = i }; size = k; memo_length = m; columns = cs; file_length = n })
    (record { layout = l'; id = record { 0 = i' }; size = k'; memo_length = m'; columns = cs'; file_length = n' })
header_from l l' i i' k k' m m' cs cs' n n' el ei ek em ec en = rw (el, ei, ek, em, ec, en) refl

pub most_is : (k : ℕ) → k ≤ 50 → 1 * 2 ^ (k + 1) % 2 ^ 64 ≡ 2 ^ (k + 1)
most_is k h = one_shl (k + 1) 64 (omega arith)
