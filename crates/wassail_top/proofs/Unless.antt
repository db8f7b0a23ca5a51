-- The first cause to refuse a query is answered.
use Rattle.std.proofs.Common.{◌≡◌, Option, Some, None, sym, subst}
use Rattle.std.specs.Option.{option_or}
use Rattle.report_text.specs.declared.refusal.Refusal.TheVariants as refusal
use Rattle.report_text.specs.declared.refusal.QueryRefusal.{QueryRefusal}
use Rattle.wassail_top.specs.Refusals.{Answer, refused}
use Rattle.wassail_top.specs.RunAnswers.{AnswersUnless}

pub refused_first : (why later : Option QueryRefusal) (cause : QueryRefusal) (Holds : Answer → Type 0) (answer : Answer) → why ≡ Some cause
    → answer ≡ refused (refusal.Query cause) → AnswersUnless (option_or why later) Holds answer
refused_first why later cause Holds answer is h = subst (λ w. AnswersUnless (option_or w later) Holds answer) (sym is) h

pub refused_later : (why later : Option QueryRefusal) (Holds : Answer → Type 0) (answer : Answer) → why ≡ None → AnswersUnless later Holds answer
    → AnswersUnless (option_or why later) Holds answer
refused_later why later Holds answer is h = subst (λ w. AnswersUnless (option_or w later) Holds answer) (sym is) h

pub taken : (why : Option QueryRefusal) (Holds : Answer → Type 0) (answer : Answer) → why ≡ None → Holds answer → AnswersUnless why Holds answer
taken why Holds answer is h = subst (λ w. AnswersUnless w Holds answer) (sym is) h
