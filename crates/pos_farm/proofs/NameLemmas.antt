-- A list of names, a line after another: what one read of a line shows, and that bytes list names in one way.
use Rattle.std.proofs.Common.{◌≡◌, ℕ, suc, ◌+◌, ◌-◌, ◌<◌, ◌≤◌, ◌⊎◌, inl, inr, min, All, List, [], ◌∷◌, ◌++◌, length, map, take, drop, slice_range, true, Some, Result, Ok, Err, IsErrOf, IsUtf8, refl, sym, ap, ◌∙◌, subst, arith}
use Rattle.std.specs.List.{concat}
use Rattle.std.proofs.lemmas.Bool.{cases_order}
use Rattle.std.proofs.lemmas.List.{append-nil, append_assoc, drop_all, length-append, length-drop, length-take-le, length_push, map_push, take-append-drop}
use Rattle.std.proofs.lemmas.List.Elements.{All-head, All-nil, All-push, All-tail}
use Rattle.std.proofs.lemmas.List.Folds.{concat-append}
use Rattle.std.proofs.Math.Seq.{take-append-add}
use Rattle.pos_edge.specs.Frame.{NameOf}
use Rattle.pos_edge.specs.View.{View}
use Rattle.pos_reader.specs.Plots.{OnlyReads}
use Rattle.pos_reader.proofs.ReadLemmas.{reads_fewer, reads_then, size_after}
use Rattle.pos_farm.specs.NameLaws.{ListOrBadLine, OneBadLine, OneNameList}
use Rattle.pos_farm.specs.declared.list.ListFault.{ListFault}
use Rattle.pos_farm.specs.declared.list.ListFault.TheVariants.{Line}
use Rattle.pos_farm.specs.NameLists.{BeginsWithName, HasBadLine, IsListedName, IsNameList, name_line, name_lines}
use Rattle.pos_farm.specs.Steps.{BeginsWith, IsReadTo, StandsAt}

-- no newline among these bytes
abbrev pub IsOneLine : List ℕ → Type 0
IsOneLine xs = All (λ x. x ≡ 10 → ⊥) xs

-- ---- the first newline

one_front : (xs ys rest more : List ℕ) → IsOneLine xs → IsOneLine ys → xs ++ 10 ∷ rest ≡ ys ++ 10 ∷ more → (xs ≡ ys) × (rest ≡ more)
one_front [] [] rest more all also same = (refl, ap (drop 1) same)
one_front [] (y ∷ ys) rest more all also same =
    let first : 10 ≡ y = cc in
    absurd (All-head (λ x. x ≡ 10 → ⊥) y ys also (sym first))
one_front (x ∷ xs) [] rest more all also same =
    let first : x ≡ 10 = cc in
    absurd (All-head (λ x. x ≡ 10 → ⊥) x xs all first)
one_front (x ∷ xs) (y ∷ ys) rest more all also same =
    let first : x ≡ y = cc in
    let h = one_front xs ys rest more (All-tail (λ x. x ≡ 10 → ⊥) x xs all) (All-tail (λ x. x ≡ 10 → ⊥) y ys also) (ap (drop 1) same) in
    (ap (λ z. z ∷ xs) first ∙ ap (λ zs. y ∷ zs) h.0, h.1)

-- bytes in which the first newline stands at this place begin with the line of a name, if what stands before it is one
pub front_named : (bytes : List ℕ) (end : ℕ) → end < length bytes → length bytes ≤ 1025 → drop end bytes ≡ 10 ∷ drop (end + 1) bytes → IsOneLine (take end bytes)
    → 1 ≤ end → IsUtf8 (take end bytes) → BeginsWith (take end bytes) bytes
front_named bytes end inside short newline before some text =
    let long : length (take end bytes) ≡ end = length-take-le end bytes (omega arith) in
    record {
      rest = drop (end + 1) bytes;
      line = sym (take-append-drop end bytes) ∙ ap (λ zs. take end bytes ++ zs) newline;
      good = record { text = text; some = omega (arith, long); short = omega (arith, long); one_line = before };
    }

-- and the name can only be what stands before it
pub front_is : (bytes : List ℕ) (end : ℕ) → drop end bytes ≡ 10 ∷ drop (end + 1) bytes → IsOneLine (take end bytes)
    → (h : BeginsWithName bytes) → h.0 ≡ take end bytes
front_is bytes end newline before h =
    (one_front h.0 (take end bytes) h.1 (drop (end + 1) bytes) h.3.one_line before
    (sym h.2 ∙ sym (take-append-drop end bytes) ∙ ap (λ zs. take end bytes ++ zs) newline)).0

pub front_empty : (bytes : List ℕ) (end : ℕ) → drop end bytes ≡ 10 ∷ drop (end + 1) bytes → IsOneLine (take end bytes) → end ≡ 0 → BeginsWithName bytes → ⊥
front_empty bytes end newline before none h =
    let is : h.0 ≡ take 0 bytes = subst (λ n. h.0 ≡ take n bytes) none (front_is bytes end newline before h) in
    let long : length h.0 ≡ 0 = ap length is in
    let some = h.3.some in
    absurd (omega (arith, long, some))

pub front_no_text : (bytes : List ℕ) (end : ℕ) → drop end bytes ≡ 10 ∷ drop (end + 1) bytes → IsOneLine (take end bytes) → (IsUtf8 (take end bytes) → ⊥) → BeginsWithName bytes → ⊥
front_no_text bytes end newline before no_text h = no_text (subst IsUtf8 (front_is bytes end newline before h) h.3.text)

pub front_no_end : (bytes : List ℕ) → IsOneLine bytes → BeginsWithName bytes → ⊥
front_no_end bytes all h =
    let all_of : IsOneLine (h.0 ++ 10 ∷ h.1) = subst IsOneLine h.2 all in
    newline_in h.0 h.1 all_of
  where
    newline_in : (xs rest : List ℕ) → IsOneLine (xs ++ 10 ∷ rest) → ⊥
    newline_in [] rest all = All-head (λ x. x ≡ 10 → ⊥) 10 rest all refl
    newline_in (x ∷ xs) rest all = newline_in xs rest (All-tail (λ x. x ≡ 10 → ⊥) x (xs ++ 10 ∷ rest) all)

-- ---- from the bytes of one read to the file

cut : (name rest : List ℕ) (count : ℕ) → length name + 1 ≤ count → take count (name ++ 10 ∷ rest) ≡ name ++ 10 ∷ take (count - (length name + 1)) rest
cut name rest count fits =
    let long : length (name ++ 10 ∷ []) ≡ length name + 1 = length_push name 10 in
    let at : count ≡ length (name ++ 10 ∷ []) + (count - (length name + 1)) = omega (arith, long) in
    ap (λ xs. take count xs) (sym (append_assoc name (10 ∷ []) rest))
    ∙ ap (λ n. take n ((name ++ 10 ∷ []) ++ rest)) at
    ∙ take-append-add (name ++ 10 ∷ []) rest (count - (length name + 1))
    ∙ append_assoc name (10 ∷ []) (take (count - (length name + 1)) rest)

pub name_stands : (b front name : List ℕ) (at count : ℕ) → front ≡ take count (drop at b) → BeginsWith name front → StandsAt b at name
name_stands b front name at count read h = record {
  rest = h.rest ++ drop count (drop at b);
  line = sym (take-append-drop count (drop at b)) ∙ ap (λ xs. xs ++ drop count (drop at b)) (sym read ∙ h.line)
      ∙ append_assoc name (10 ∷ h.rest) (drop count (drop at b));
  good = h.good;
}

pub none_stands : (b front : List ℕ) (at count : ℕ) → front ≡ take count (drop at b) → count ≡ min (length b - at) 1025 → (BeginsWithName front → ⊥) → BeginsWithName (drop at b) → ⊥
none_stands b front at count read is none h =
    let short = h.3.short in
    let len : length (drop at b) ≡ length b - at = length-drop at b in
    let long : length (drop at b) ≡ length h.0 + suc (length h.1) = ap length h.2 ∙ length-append h.0 (10 ∷ h.1) in
    let fits : length h.0 + 1 ≤ count = omega (arith, short, len, long, is) in
    none (h.0, take (count - (length h.0 + 1)) h.1, read ∙ ap (take count) h.2 ∙ cut h.0 h.1 count fits, h.3)

-- the line lies inside the file
pub stands_fits : (front name : List ℕ) (at count size : ℕ) → length front ≡ count → at + count ≤ size → BeginsWith name front → at + length name + 1 ≤ size
stands_fits front name at count size read inside h =
    let long : length front ≡ length name + suc (length h.rest) = ap length h.line ∙ length-append name (10 ∷ h.rest) in
    omega (arith, long)

-- ---- a line more

pub read_none : (b : List ℕ) → IsReadTo b 0 []
read_none b = record { lines = refl; place = refl; good = All-nil IsListedName }

name_lines-push : (names : List (List ℕ)) (name : List ℕ) → name_lines (names ++ name ∷ []) ≡ name_lines names ++ name_line name
name_lines-push names name =
    ap concat (map_push name_line names name) ∙ concat-append (map name_line names) (name_line name ∷ [])
    ∙ ap (λ xs. name_lines names ++ xs) (append-nil (name_line name))

pub read_line : (b : List ℕ) (at : ℕ) (names : List (List ℕ)) (name : List ℕ) → IsReadTo b at names → StandsAt b at name
    → IsReadTo b (at + (length name + 1)) (names ++ name ∷ [])
read_line b at names name h stands =
    let lines : name_lines (names ++ name ∷ []) ≡ name_lines names ++ name_line name = name_lines-push names name in
    let long : length (name_lines (names ++ name ∷ [])) ≡ length (name_lines names) + (length name + 1) =
    ap length lines ∙ length-append (name_lines names) (name_line name) ∙ ap (λ n. length (name_lines names) + n) (length_push name 10) in
    let far : at + (length name + 1) ≡ length (name_lines (names ++ name ∷ [])) = ap (λ n. n + (length name + 1)) h.place ∙ sym long in
    let whole : b ≡ name_lines (names ++ name ∷ []) ++ stands.rest =
    h.lines ∙ ap (λ xs. name_lines names ++ xs) (stands.line ∙ sym (append_assoc name (10 ∷ []) stands.rest))
    ∙ sym (append_assoc (name_lines names) (name_line name) stands.rest) ∙ ap (λ xs. xs ++ stands.rest) (sym lines) in
    let left : drop (at + (length name + 1)) b ≡ stands.rest =
    ap (λ n. drop n b) far ∙ ap (drop (length (name_lines (names ++ name ∷ [])))) whole ∙ dropped (name_lines (names ++ name ∷ [])) stands.rest in
    record {
      lines = whole ∙ ap (λ xs. name_lines (names ++ name ∷ []) ++ xs) (sym left);
      place = far;
      good = All-push IsListedName names name h.good stands.good;
    }
  where
    dropped : (xs ys : List ℕ) → drop (length xs) (xs ++ ys) ≡ ys
    dropped [] ys = refl
    dropped (x ∷ xs) ys = dropped xs ys

pub read_all : (b : List ℕ) (at : ℕ) (names : List (List ℕ)) → IsReadTo b at names → at ≡ length b → length names ≤ 256 → IsNameList b names
read_all b at names h end few =
    let left : drop at b ≡ [] = drop_all at b (omega arith) in
    record {
      lines = h.lines ∙ ap (λ xs. name_lines names ++ xs) left ∙ append-nil (name_lines names);
      good = h.good;
      few = few;
    }

pub read_bad : (b : List ℕ) (at line : ℕ) (names : List (List ℕ)) → IsReadTo b at names → at < length b → line ≡ length names → line ≤ 256
    → (line ≡ 256) ⊎ (BeginsWithName (drop at b) → ⊥) → HasBadLine b line
read_bad b at line names h more number few bad =
    let left : length (drop at b) ≡ length b - at = length-drop at b in
    record {
      names = names;
      rest = drop at b;
      lines = h.lines;
      good = h.good;
      number = number;
      few = few;
      goes_on = omega (arith, left);
      bad = bad;
    }

-- ---- bytes list names in one way

lines-cons : (name : List ℕ) (names : List (List ℕ)) (rest : List ℕ) → name_lines (name ∷ names) ++ rest ≡ name ++ 10 ∷ (name_lines names ++ rest)
lines-cons name names rest =
    append_assoc (name_line name) (name_lines names) rest ∙ append_assoc name (10 ∷ []) (name_lines names ++ rest)

-- the same first line, and the same behind it
same_line : (name other : List ℕ) (names others : List (List ℕ)) (rest more : List ℕ) → All IsListedName (name ∷ names) → All IsListedName (other ∷ others)
    → name_lines (name ∷ names) ++ rest ≡ name_lines (other ∷ others) ++ more → (name ≡ other) × (name_lines names ++ rest ≡ name_lines others ++ more)
same_line name other names others rest more good also same =
    one_front name other (name_lines names ++ rest) (name_lines others ++ more)
    (All-head IsListedName name names good).one_line (All-head IsListedName other others also).one_line
    (sym (lines-cons name names rest) ∙ same ∙ lines-cons other others more)

same_names : (names others : List (List ℕ)) (rest more : List ℕ) → All IsListedName names → All IsListedName others
    → name_lines names ++ rest ≡ name_lines others ++ more → length names ≡ length others → (names ≡ others) × (rest ≡ more)
same_names [] [] rest more good also same long = (refl, same)
same_names [] (other ∷ others) rest more good also same long = absurd (omega arith)
same_names (name ∷ names) [] rest more good also same long = absurd (omega arith)
same_names (name ∷ names) (other ∷ others) rest more good also same long =
    let h = same_line name other names others rest more good also same in
    let r = same_names names others rest more (All-tail IsListedName name names good) (All-tail IsListedName other others also) h.1 (omega arith) in
    (ap (λ z. z ∷ names) h.0 ∙ ap (λ zs. other ∷ zs) r.0, r.1)

-- behind fewer names stands the line of one more
goes_on : (names others : List (List ℕ)) (rest more : List ℕ) → All IsListedName names → All IsListedName others
    → name_lines names ++ rest ≡ name_lines others ++ more → length names < length others → BeginsWithName rest
goes_on [] [] rest more good also same less = absurd (omega arith)
goes_on [] (other ∷ others) rest more good also same less =
    (other, name_lines others ++ more, same ∙ lines-cons other others more, All-head IsListedName other others also)
goes_on (name ∷ names) [] rest more good also same less = absurd (omega arith)
goes_on (name ∷ names) (other ∷ others) rest more good also same less =
    goes_on names others rest more (All-tail IsListedName name names good) (All-tail IsListedName other others also)
    (same_line name other names others rest more good also same).1 (omega arith)

never_begins : BeginsWithName [] → ⊥
never_begins h =
    let long : 0 ≡ length h.0 + suc (length h.1) = ap length h.2 ∙ length-append h.0 (10 ∷ h.1) in
    absurd (omega (arith, long))

as_rest : (b : List ℕ) (names : List (List ℕ)) → IsNameList b names → b ≡ name_lines names ++ []
as_rest b names h = h.lines ∙ sym (append-nil (name_lines names))

pub one_name_list : OneNameList
one_name_list b names others x y =
    let same = sym (as_rest b names x) ∙ as_rest b others y in
    elim (cases_order (length names) (length others)) as (λ _. names ≡ others) [
      | inl equal ↦ (same_names names others [] [] x.good y.good same equal).0
      | inr (inl less) ↦ absurd (never_begins (goes_on names others [] [] x.good y.good same less))
      | inr (inr more) ↦ absurd (never_begins (goes_on others names [] [] y.good x.good (sym same) more))
    ]

-- a bad line has no further names behind it
bad_is_last : (b : List ℕ) (line other : ℕ) (x : HasBadLine b line) → other ≤ 256 → line < other → BeginsWithName x.rest → ⊥
bad_is_last b line other x few less begins =
    elim x.bad as (λ _. ⊥) [
      | inl most ↦ absurd (omega arith)
      | inr none ↦ none begins
    ]

later_line : (b : List ℕ) (line other : ℕ) → HasBadLine b line → HasBadLine b other → line < other → ⊥
later_line b line other x y less =
    let n = x.number in
    let m = y.number in
    bad_is_last b line other x y.few less (goes_on x.names y.names x.rest y.rest x.good y.good (sym x.lines ∙ y.lines) (omega arith))

pub one_bad_line : OneBadLine
one_bad_line b line other x y =
    elim (cases_order line other) as (λ _. line ≡ other) [
      | inl equal ↦ equal
      | inr (inl less) ↦ absurd (later_line b line other x y less)
      | inr (inr more) ↦ absurd (later_line b other line y x more)
    ]

pub list_or_bad_line : ListOrBadLine
list_or_bad_line b names line x y =
    let same = sym y.lines ∙ as_rest b names x in
    let n = y.number in
    elim (cases_order (length y.names) (length names)) as (λ _. ⊥) [
      | inl equal ↦
          let none : y.rest ≡ [] = (same_names y.names names y.rest [] y.good x.good same equal).1 in
          let some = y.goes_on in
          let long : length y.rest ≡ 0 = ap length none in
          absurd (omega arith)
      | inr (inl less) ↦ bad_is_last b line (length names) y x.few (omega arith) (goes_on y.names names y.rest [] y.good x.good same less)
      | inr (inr more) ↦ never_begins (goes_on names y.names [] y.rest x.good y.good (sym same) more)
    ]

-- ---- the file between two reads

-- the bytes of a read are those of the file from its place on
pub read_is : (b got : List ℕ) (at : ℕ) → got ≡ slice_range b at (at + length got) → got ≡ take (length got) (drop at b)
read_is b got at read = read ∙ ap (λ n. take n (drop at b)) (omega arith)

-- a file that was only read from is as it was
pub record StillHeld (file : ℕ) (name b : List ℕ) (view : View) : Type 0 where
  pub named : NameOf file view name
  pub contents : view.contents name ≡ Some b
  pub long : view.size_of file ≡ length b

pub still_held : (n file : ℕ) (name b : List ℕ) (v w : View) → OnlyReads n v w → v.is_live file ≡ true → NameOf file v name → v.contents name ≡ Some b
    → v.size_of file ≡ length b → StillHeld file name b w
still_held n file name b v w reads live named contents long = record {
  named = reads.ids.name file (λ x. x) ∙ named;
  contents = reads.kept.contents name (λ x. x) ∙ contents;
  long = size_after n file v w reads live ∙ long;
}

pub reads_more : (line : ℕ) (u v w : View) → line < 256 → OnlyReads line u v → OnlyReads 1 v w → OnlyReads 256 u w
reads_more line u v w less far step = reads_fewer (line + 1) 256 u w (omega arith) (reads_then line 1 u v w far step)

-- ---- numbers of a line

pub not_at_end : (at size far long : ℕ) → at ≤ far → (at ≡ size → ⊥) → size ≡ far → far ≡ long → at < long
not_at_end at size far long within other same is = omega (arith, other)

pub line_fits : (at long count now before : ℕ) → at + long + 1 ≤ now → now ≡ before → count ≡ long → at + (count + 1) ≤ before
line_fits at long count now before fits same is = omega arith

-- a fault that is handed on with a line
pub handed_line : {Y : Type 0} (fault : ListFault) (line : ℕ) (result : Result Y ListFault) → result ≡ Err fault → IsErrOf result (Line line) → fault ≡ Line line
handed_line fault line (Ok y) is found = cc
handed_line fault line (Err e) is found = (let same : e ≡ fault = cc in let this : e ≡ Line line = cc in cc)

pub same_number : {Y : Type 0} (line : ℕ) → IsErrOf {T = Y} (Err (Line 256)) (Line line) → line ≡ 256
same_number line is = (let same : Line 256 ≡ Line line = cc in cc)
