-- Which words are a command.
use Rattle.std.specs.Prelude.{ℕ, ◌≡◌, ◌==◌, Bool, true, false, if◌then◌else◌, List, [], ◌∷◌, codes, map, String, string_bytes, Option, Some, None, IfSome}
use Rattle.std.specs.Bool.{IsFalse}
use Rattle.std.specs.Option.{option_map}
use Rattle.std.specs.Cmp.Lexicographic.{pointwise}
use Rattle.std.specs.declared.alloc.Global.{Global}
use Rattle.pos_app.specs.Words.{size_word, bytes_word, hash_word, file_word, challenges_word, number_word, output_words}

-- a command with what its words write
pub data Command : Type 0 where
  -- judge the bytes of a proof for a challenge, over the plot of an id and a size
  Verify : (id : List ℕ) (k : ℕ) (challenge proof : List ℕ) → Command
  -- make the plot file of an id and a size, with scratch files whose names begin so
  MakePlot : (id : List ℕ) (k : ℕ) (file base : List ℕ) → Command
  -- list the proofs for a challenge that a plot file holds
  Prove : (file challenge : List ℕ) → Command
  -- list the qualities of these proofs
  Quality : (file challenge : List ℕ) → Command
  -- show what the header of a plot file says
  Inspect : (file : List ℕ) → Command
  -- test a plot file by so many challenges
  CheckPlot : (file : List ℕ) (n : ℕ) → Command
  -- make the plot of a number and test it by so many challenges
  Survey : (k number n : ℕ) (file base : List ℕ) → Command
  -- ask the plots of a list for a challenge
  Farm : (list challenge : List ℕ) → Command

-- the word is this name
abbrev pub is_name : List ℕ → List ℕ → Bool
is_name name word = pointwise ◌==◌ word name

-- a command that verifies, if all four words are what it takes
abbrev pub verify_of : Option (List ℕ) → Option ℕ → Option (List ℕ) → Option (List ℕ) → Option Command
verify_of (Some id) (Some k) (Some challenge) (Some proof) = Some (Verify id k challenge proof)
verify_of id k challenge proof = None

-- the words behind `verify`: ID K CHALLENGE PROOF
abbrev pub verify_command : List (List ℕ) → Option Command
verify_command (id ∷ k ∷ challenge ∷ proof ∷ []) =
    verify_of (hash_word id) (size_word k) (hash_word challenge) (bytes_word proof)
verify_command words = None

-- a command that makes a plot, if all words are what it takes
abbrev pub make_plot_of : Option (List ℕ) → Option ℕ → Option (List ℕ × List ℕ) → Option Command
make_plot_of (Some id) (Some k) (Some names) = Some (MakePlot id k names.0 names.1)
make_plot_of id k names = None

-- the words behind `plot`: ID K FILE SCRATCH
abbrev pub plot_command : List (List ℕ) → Option Command
plot_command (id ∷ k ∷ file ∷ base ∷ []) = make_plot_of (hash_word id) (size_word k) (output_words file base)
plot_command words = None

-- a plot file and a challenge, if both words are what they have to be
abbrev pub question_of : Option (List ℕ) → Option (List ℕ) → Option (List ℕ × List ℕ)
question_of (Some file) (Some challenge) = Some (file, challenge)
question_of file challenge = None

-- the words behind `prove` and `quality`, FILE CHALLENGE, and behind `farm`, LIST CHALLENGE
abbrev pub question_words : List (List ℕ) → Option (List ℕ × List ℕ)
question_words (file ∷ challenge ∷ []) = question_of (file_word file) (hash_word challenge)
question_words words = None

-- the word behind `inspect`: FILE
abbrev pub inspect_command : List (List ℕ) → Option Command
inspect_command (file ∷ []) = option_map Inspect (file_word file)
inspect_command words = None

-- a command that tests a plot file, if both words are what they have to be
abbrev pub check_of : Option (List ℕ) → Option ℕ → Option Command
check_of (Some file) (Some n) = Some (CheckPlot file n)
check_of file n = None

-- the words behind `check`: FILE N
abbrev pub check_command : List (List ℕ) → Option Command
check_command (file ∷ n ∷ []) = check_of (file_word file) (challenges_word n)
check_command words = None

-- a command that makes the plot of a number and tests it, if all words are what it takes
abbrev pub survey_of : Option ℕ → Option ℕ → Option ℕ → Option (List ℕ × List ℕ) → Option Command
survey_of (Some k) (Some number) (Some n) (Some names) = Some (Survey k number n names.0 names.1)
survey_of k number n names = None

-- the words behind `survey`: K NUMBER N FILE SCRATCH
abbrev pub survey_command : List (List ℕ) → Option Command
survey_command (k ∷ number ∷ n ∷ file ∷ base ∷ []) =
    survey_of (size_word k) (number_word number) (challenges_word n) (output_words file base)
survey_command words = None

-- the command that the words are, if they are one
abbrev pub command_of : List (List ℕ) → Option Command
command_of [] = None
command_of (name ∷ words) =
    if is_name (codes "verify") name then verify_command words
    else if is_name (codes "plot") name then plot_command words
    else if is_name (codes "prove") name then option_map (λ (q : List ℕ × List ℕ). Prove q.0 q.1) (question_words words)
    else if is_name (codes "quality") name then option_map (λ (q : List ℕ × List ℕ). Quality q.0 q.1) (question_words words)
    else if is_name (codes "inspect") name then inspect_command words
    else if is_name (codes "check") name then check_command words
    else if is_name (codes "survey") name then survey_command words
    else if is_name (codes "farm") name then option_map (λ (q : List ℕ × List ℕ). Farm q.0 q.1) (question_words words)
    else None

-- the words ask for this command; they are no command
abbrev pub Asks : List (String Global) → Command → Type 0
Asks words command = command_of (map string_bytes words) ≡ Some command

abbrev pub IsNoCommand : List (String Global) → Type 0
IsNoCommand words = command_of (map string_bytes words) ≡ None

-- a command that makes calls on the disk
abbrev pub needs_disk : Command → Bool
needs_disk (Verify id k challenge proof) = false
needs_disk (MakePlot id k file base) = true
needs_disk (Prove file challenge) = true
needs_disk (Quality file challenge) = true
needs_disk (Inspect file) = true
needs_disk (CheckPlot file n) = true
needs_disk (Survey k number n file base) = true
needs_disk (Farm list challenge) = true

-- the words are no such command
abbrev pub NeedsNoDisk : List (String Global) → Type 0
NeedsNoDisk words = IfSome (command_of (map string_bytes words)) (λ command. IsFalse (needs_disk command))

-- a command that makes files
abbrev pub makes_files : Command → Bool
makes_files (Verify id k challenge proof) = false
makes_files (MakePlot id k file base) = true
makes_files (Prove file challenge) = false
makes_files (Quality file challenge) = false
makes_files (Inspect file) = false
makes_files (CheckPlot file n) = false
makes_files (Survey k number n file base) = true
makes_files (Farm list challenge) = false

-- the words are no such command
abbrev pub MakesNoFile : List (String Global) → Type 0
MakesNoFile words = IfSome (command_of (map string_bytes words)) (λ command. IsFalse (makes_files command))

-- a command on the plot file of this name
abbrev pub IsOnFile : List ℕ → Command → Type 0
IsOnFile name (Verify id k challenge proof) = ⊥
IsOnFile name (MakePlot id k file base) = ⊥
IsOnFile name (Prove file challenge) = file ≡ name
IsOnFile name (Quality file challenge) = file ≡ name
IsOnFile name (Inspect file) = file ≡ name
IsOnFile name (CheckPlot file n) = file ≡ name
IsOnFile name (Survey k number n file base) = ⊥
IsOnFile name (Farm list challenge) = ⊥

-- the words ask something of this plot file
abbrev pub AsksOfFile : List (String Global) → List ℕ → Type 0
AsksOfFile words file = (command : Command) × Asks words command × IsOnFile file command

-- a command for this challenge, or for none; that of a check follow from the plot
abbrev pub IsForChallenge : List ℕ → Command → Type 0
IsForChallenge c (Verify id k challenge proof) = challenge ≡ c
IsForChallenge c (MakePlot id k file base) = Unit {0}
IsForChallenge c (Prove file challenge) = challenge ≡ c
IsForChallenge c (Quality file challenge) = challenge ≡ c
IsForChallenge c (Inspect file) = Unit {0}
IsForChallenge c (CheckPlot file n) = ⊥
IsForChallenge c (Survey k number n file base) = Unit {0}
IsForChallenge c (Farm list challenge) = challenge ≡ c

-- the words ask something of this plot file, for this challenge
abbrev pub AsksFor : List (String Global) → List ℕ → List ℕ → Type 0
AsksFor words file c = (command : Command) × Asks words command × IsOnFile file command × IsForChallenge c command

-- a command that judges a proof; the words ask for one
abbrev pub IsVerify : Command → Type 0
IsVerify (Verify id k challenge proof) = Unit {0}
IsVerify (MakePlot id k file base) = ⊥
IsVerify (Prove file challenge) = ⊥
IsVerify (Quality file challenge) = ⊥
IsVerify (Inspect file) = ⊥
IsVerify (CheckPlot file n) = ⊥
IsVerify (Survey k number n file base) = ⊥
IsVerify (Farm list challenge) = ⊥

abbrev pub AsksToVerify : List (String Global) → Type 0
AsksToVerify words = (command : Command) × Asks words command × IsVerify command

-- a command that asks the plots of a list; the words ask for one, or for none such
abbrev pub asks_list : Command → Bool
asks_list (Verify id k challenge proof) = false
asks_list (MakePlot id k file base) = false
asks_list (Prove file challenge) = false
asks_list (Quality file challenge) = false
asks_list (Inspect file) = false
asks_list (CheckPlot file n) = false
asks_list (Survey k number n file base) = false
asks_list (Farm list challenge) = true

abbrev pub AsksList : List (String Global) → Type 0
AsksList words = (command : Command) × Asks words command × (asks_list command ≡ true)

abbrev pub AsksNoList : List (String Global) → Type 0
AsksNoList words = IfSome (command_of (map string_bytes words)) (λ command. IsFalse (asks_list command))
