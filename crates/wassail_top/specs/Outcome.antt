-- What a call of the program gave to out and to err.
use Rattle.std.specs.Prelude.{◌≡◌, ◌⊎◌, ℕ, List, Some}
use Rattle.std.specs.declared.option.Option.{Option}
use Rattle.std.specs.Io.KnownBytes.{Appends, Keeps}
use Rattle.outside_io.specs.Whole.{GavePrefix}
use Rattle.report_text.specs.declared.refusal.Refusal.TheVariants as refusal
use Rattle.wassail_top.specs.Answers.{Answers, IsDue, FailedToRead}
use Rattle.wassail_top.specs.Orders.{Order}
use Rattle.wassail_top.specs.Refusals.{Answer, refused}
use Rattle.wassail_top.specs.Words.{order_of}

-- out and err gained the whole answer
pub record GaveAll (out_old out_new err_old err_new : Option (List ℕ)) (answer : Answer) : Type 0 where
  pub out : Appends out_old out_new answer.out
  pub err : Appends err_old err_new answer.err

-- out and err gained fronts of the answer, and err nothing unless out gained all
pub record GaveFront (out_old out_new err_old err_new : Option (List ℕ)) (answer : Answer) : Type 0 where
  pub out : GavePrefix out_old out_new answer.out
  pub err : GavePrefix err_old err_new answer.err
  pub order : Appends out_old out_new answer.out ⊎ Keeps err_old err_new

-- The status is that of the answer, which out and err gained.
pub record Answered (words : List (List ℕ)) (left_old left_new out_old out_new err_old err_new : Option (List ℕ)) (status : ℕ) : Type 0 where
  pub answer : Answer
  pub due : Answers words left_old left_new answer
  pub same : status ≡ answer.status
  pub gave : GaveAll out_old out_new err_old err_new answer

-- The words are a command, the source failed, and err gained the line that tells of it.
pub record ReadFailed (words : List (List ℕ)) (left_old left_new : Option (List ℕ)) (faults_old faults_new : ℕ)
    (out_old out_new err_old err_new : Option (List ℕ)) : Type 0 where
  pub order : Order
  pub named : order_of words ≡ Some order
  pub failed : FailedToRead left_old left_new faults_old faults_new
  pub gave : GaveAll out_old out_new err_old err_new (refused refusal.ReadFailed)

-- Out and err gained fronts of what was due.
pub record WriteFailed (words : List (List ℕ)) (left_old left_new : Option (List ℕ)) (faults_old faults_new : ℕ)
    (out_old out_new err_old err_new : Option (List ℕ)) : Type 0 where
  pub answer : Answer
  pub due : IsDue words left_old left_new faults_old faults_new answer
  pub gave : GaveFront out_old out_new err_old err_new answer
