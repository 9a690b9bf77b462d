-- The answer to a command, whichever it is.
use Rattle.std.proofs.Common.{◌≡◌, ℕ, List, Result, Ok, Err, sym, ◌∙◌, subst, inl, inr}
use Rattle.std.specs.Prelude.{Option, Some, String, IfOk, OnErr, string_bytes}
use Rattle.std.specs.declared.alloc.Global.{Global}
use Rattle.std.specs.declared.alloc.AllocError.{AllocError}
use Rattle.pos_edge.specs.View.{View}
use Rattle.pos_app.specs.Command.{Command}
use Rattle.pos_edge.specs.Sinks.{Heard}
use Rattle.pos_app.specs.Answers.{IsUnsaid, Says, Speaks}
use Rattle.pos_app.specs.Obeyed.{SaysAnswer, TellsAnswer}

-- the words are one command
pub says_answer-same :
    (a b : Command) (command : Option Command) (before after : View) (result : ℕ) (old new : Heard) → command ≡ Some a → command ≡ Some b
    → SaysAnswer a before after result old new → SaysAnswer b before after result old new
says_answer-same a b command before after result old new e f h =
    let both : ◌≡◌ {A = Option Command} (Some a) (Some b) = sym e ∙ f in
    let same : a ≡ b = cc in subst (λ m. SaysAnswer m before after result old new) same h

pub tells_answer-same :
    (a b : Command) (command : Option Command) (result : ℕ) → command ≡ Some a → command ≡ Some b
    → TellsAnswer a result → TellsAnswer b result
tells_answer-same a b command result e f h =
    let both : ◌≡◌ {A = Option Command} (Some a) (Some b) = sym e ∙ f in
    let same : a ≡ b = cc in subst (λ m. TellsAnswer m result) same h

-- a text for which there was memory is said, or want of memory is answered
pub text_said : (status : ℕ) (text : List ℕ) (made : Result (String Global) AllocError) (result : ℕ) (old new : Heard) → IfOk made (λ line. string_bytes line ≡ text)
    → IfOk made (λ line. Speaks status (string_bytes line) result old new) → OnErr made (IsUnsaid result old new) → Says status text result old new
text_said status text (Ok line) result old new is said unsaid = inl (subst (λ s. Speaks status s result old new) is said)
text_said status text (Err fault) result old new is said unsaid = inr unsaid
