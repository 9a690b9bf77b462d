-- Several calls as one: frames one after another, and what a crash may leave over them.
use Rattle.std.proofs.Common.{ℕ, ◌≤◌, ◌≡◌, ◌↔◌, true, List, Option, refl, sym, ◌∙◌, subst, inl, inr, arith}
use Rattle.std.proofs.lemmas.Bool.{cases_lt}
use Rattle.pos_edge.specs.View.{View}
use Rattle.pos_edge.specs.Frame.{ChangesOnly, ChangesFile, FileBeside, Nothing, Just, NameOf}
use Rattle.pos_edge.specs.Images.{EachImage, ImagesBy}

pub iff_then : {A B C : Type 0} → (A ↔ B) → (B ↔ C) → A ↔ C
iff_then f g = (λ a. g.0 (f.0 a), λ c. f.1 (g.1 c))

-- nothing changes from a moment to itself
pub frame_none : (names : List ℕ → Type 0) (ids : ℕ → Type 0) (v : View) → ChangesOnly names ids v v
frame_none names ids v = record {
  faults = omega arith;
  reads = omega arith;
  clock = omega arith;
  tells = refl;
  tells_images = refl;
  live = λ f l k. l;
  size = λ f l k. refl;
  name = λ f l k e. refl;
  contents = λ n k. refl;
  images = λ n t i k a b. let e : t ≡ v.clock = omega arith in (λ x. subst (λ (s : ℕ). v.image n s i) e x, λ x. subst (λ (s : ℕ). v.image n s i) (sym e) x);
  past = λ n t i a. (λ x. x, λ x. x);
}

-- Two frames make one. A FileId that was not live at the start may have been changed by the second.
pub frame_then : (names first second : List ℕ → Type 0) (ids first_ids second_ids : ℕ → Type 0) (a b c : View)
    → ((n : List ℕ) → first n → names n) → ((n : List ℕ) → second n → names n)
    → ((f : ℕ) → a.is_live f ≡ true → first_ids f → ids f) → ((f : ℕ) → a.is_live f ≡ true → second_ids f → ids f)
    → ChangesOnly first first_ids a b → ChangesOnly second second_ids b c → ChangesOnly names ids a c
frame_then names first second ids first_ids second_ids a b c n1 n2 i1 i2 p q = record {
  faults = let x = p.faults in let y = q.faults in omega arith;
  reads = let x = p.reads in let y = q.reads in omega arith;
  clock = let x = p.clock in let y = q.clock in omega arith;
  tells = q.tells ∙ p.tells;
  tells_images = q.tells_images ∙ p.tells_images;
  live = λ f l k. q.live f (p.live f l (λ x. k (i1 f l x))) (λ x. k (i2 f l x));
  size = λ f l k. q.size f (p.live f l (λ x. k (i1 f l x))) (λ x. k (i2 f l x)) ∙ p.size f l (λ x. k (i1 f l x));
  name = λ f l k e.
      let same = p.name f l (λ x. k (i1 f l x)) (λ n is x. e n is (n1 n x)) in
      q.name f (p.live f l (λ x. k (i1 f l x))) (λ x. k (i2 f l x)) (λ n is x. e n (sym same ∙ is) (n2 n x)) ∙ same;
  contents = λ n k. q.contents n (λ x. k (n2 n x)) ∙ p.contents n (λ x. k (n1 n x));
  images = λ n t i k from to. elim (cases_lt b.clock t) [
    | inl later ↦ iff_then (q.images n t i (λ x. k (n2 n x)) (omega arith) to) (p.images n b.clock i (λ x. k (n1 n x)) p.clock (omega arith))
    | inr earlier ↦ iff_then (q.past n t i earlier) (p.images n t i (λ x. k (n1 n x)) from earlier)
  ];
  past = λ n t i from. iff_then (q.past n t i (let x = p.clock in omega arith)) (p.past n t i from);
}

-- a frame allows no less than a smaller one
pub frame_wider : (names first : List ℕ → Type 0) (ids first_ids : ℕ → Type 0) (a b : View)
    → ((n : List ℕ) → first n → names n) → ((f : ℕ) → a.is_live f ≡ true → first_ids f → ids f)
    → ChangesOnly first first_ids a b → ChangesOnly names ids a b
frame_wider names first ids first_ids a b n1 i1 p = frame_then names first Nothing ids first_ids Nothing a b b n1 (λ n x. absurd x) i1 (λ f l x. absurd x) p (frame_none Nothing Nothing b)

-- the images of a name from a to b, and from b to c, are those from a to c
pub each_then : (name : List ℕ) (P : Option (List ℕ) → Type 0) (names : List ℕ → Type 0) (ids : ℕ → Type 0) (a b c : View)
    → ChangesOnly names ids b c → EachImage name P a b → EachImage name P b c → EachImage name P a c
each_then name P names ids a b c q first second = λ t i from to is. elim (cases_lt b.clock t) [
  | inl later ↦ second t i (omega arith) to is
  | inr earlier ↦ first t i from earlier ((q.past name t i earlier).0 is)
]

-- where the images at the start have P, those of a name outside the frame keep it
pub each_beside : (name : List ℕ) (P : Option (List ℕ) → Type 0) (names : List ℕ → Type 0) (ids : ℕ → Type 0) (a b : View)
    → ChangesOnly names ids a b → (names name → ⊥) → ((i : Option (List ℕ)) → a.image name a.clock i → P i) → EachImage name P a b
each_beside name P names ids a b p k now = λ t i from to is. now i ((p.images name t i k from to).0 is)

-- the images at the end are among those of each moment
pub each_end : (name : List ℕ) (P : Option (List ℕ) → Type 0) (a b : View) → a.clock ≤ b.clock → EachImage name P a b → (i : Option (List ℕ)) → b.image name b.clock i → P i
each_end name P a b later each = λ i is. each b.clock i later (omega arith) is

-- where the images at the start have P, a call that changes them by R leaves images that have Q
pub each_step : (name : List ℕ) (P Q : Option (List ℕ) → Type 0) (R : Option (List ℕ) → Option (List ℕ) → Type 0) (file : ℕ) (a b : View)
    → NameOf file a name → ImagesBy R file a b → ((i : Option (List ℕ)) → a.image name a.clock i → P i)
    → ((i j : Option (List ℕ)) → P i → R i j → Q j) → EachImage name Q a b
each_step name P Q R file a b named by now step = λ t i from to is.
    let w = by name named t i from to is in step w.0 i (now w.0 w.1) w.2

-- a property that holds of more images
pub each_weaker : (name : List ℕ) (P Q : Option (List ℕ) → Type 0) (a b : View) → ((i : Option (List ℕ)) → P i → Q i) → EachImage name P a b → EachImage name Q a b
each_weaker name P Q a b weaker each = λ t i from to is. weaker i (each t i from to is)

-- Two calls of a value that owns one file are one.
pub file_then : (file : ℕ) (a b c : View) → a.is_live file ≡ true → ChangesFile file a b → ChangesFile file b c → ChangesFile file a c
file_then file a b c live p q = record {
  frame = frame_then (NameOf file a) (NameOf file a) (NameOf file b) (Just file) (Just file) (Just file) a b c (λ n x. x) (λ n x. sym p.name ∙ x) (λ f l x. x) (λ f l x. x) p.frame q.frame;
  live = q.live;
  name = q.name ∙ p.name;
  grows = let x = p.grows in let y = q.grows in omega arith;
}

-- A value that owns another file, live and of another name, finds it as it was.
pub file_beside : (names : List ℕ → Type 0) (ids : ℕ → Type 0) (file : ℕ) (a b : View) → ChangesOnly names ids a b
    → a.is_live file ≡ true → (ids file → ⊥) → ((n : List ℕ) → NameOf file a n → names n → ⊥) → FileBeside file a b
file_beside names ids file a b p live apart other = record {
  live = p.live file live apart;
  size = p.size file live apart;
  name = p.name file live apart other;
  contents = λ n is. p.contents n (other n is);
  images = λ n t i is from to. p.images n t i (other n is) from to;
}
