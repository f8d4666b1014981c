-- What a function returned, seen by view.
use Rattle.std.specs.Prelude.{◌≡◌, Result, Ok, Err}
use Rattle.wit_words.specs.declared.fault.SyntaxFault.{SyntaxFault}
use Rattle.wit_words.specs.declared.fault.SyntaxFault.TheVariants as faults

-- the result, seen by view, is what reading gives
abbrev pub Agrees : {X Y E : Type 0} → (X → Y) → Result X E → Result Y E → Type 0
Agrees view (Ok x) read = read ≡ Ok (view x)
Agrees view (Err e) read = read ≡ Err e

-- this value is answered, unless memory runs out
abbrev pub AnswersText : {X Y : Type 0} → (X → Y) → Result X SyntaxFault → Y → Type 0
AnswersText view (Ok x) y = view x ≡ y
AnswersText view (Err faults.OutOfMemory) y = Unit {0}
AnswersText view (Err _) y = ⊥
