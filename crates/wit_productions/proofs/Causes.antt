-- Of a text of a production nothing but want of memory is a cause of a refusal.
use Rattle.std.proofs.Common.{◌≡◌, ℕ, List, [], ◌++◌, refl, subst, ◌∙◌, arith, inl, inr}
use Rattle.wit_tokens.specs.Passed.wit_words-declared-fault-Rule.{Rule}
use Rattle.wit_tokens.specs.Passed.wit_words-declared-fault-SyntaxFault.{SyntaxFault}
use Rattle.wit_tokens.specs.Passed.wit_words-declared-fault-SyntaxFault-TheVariants as faults
use Rattle.wit_tokens.specs.Passed.wit_words-declared-source_map-Span.{Span}
use Rattle.wit_tokens.specs.Lex.{Text}
use Rattle.wit_tokens.specs.Passed.wit_words-Token.{Tok}
use Rattle.wit_tokens.proofs.Lexemes.{one_lexing}
use Rattle.wit_tokens.proofs.OneBreak.{no_tokens}
use Rattle.wit_productions.specs.Broken.{IsBrokenTree, IsSyntaxFault}
use Rattle.wit_productions.specs.Production.{Production}
use Rattle.wit_productions.specs.WholeText.{IsTextOf}

no_tree : {X : Type 0} (p : Production X) (at : ℕ) (text : Text) (rule : Rule) (place : Span) (d : X) → IsBrokenTree p at text rule place → IsTextOf p at text d → ⊥
no_tree p at text rule place d h is =
    let same : is.tokens ≡ h.before ++ h.place = one_lexing at text is.tokens h.tokens is.lexes h.lexes ∙ h.parts in
    h.none_goes_on h.place d [] refl (subst (λ (ts : List Tok). p.front d ts []) same is.tree)

-- of a text of the grammar nothing but want of memory is a fault
pub memory_alone : {X : Type 0} (p : Production X) (at : ℕ) (text : Text) (d : X) → IsTextOf p at text d → (fault : SyntaxFault) → IsSyntaxFault p at text fault → fault ≡ faults.OutOfMemory
memory_alone p at text d is faults.OutOfMemory h = refl
memory_alone p at text d is faults.TooLarge h = absurd (omega (arith, h, is.small))
memory_alone p at text d is (faults.Broken rule place) (inl h) = absurd (no_tokens at text rule place is.tokens h is.lexes)
memory_alone p at text d is (faults.Broken rule place) (inr h) = absurd (no_tree p at text rule place d h is)
