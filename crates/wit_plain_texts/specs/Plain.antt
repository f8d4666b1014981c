-- Texts without the marks that stand between names (WIT, Package Names, Identifiers).
use Rattle.std.specs.Prelude.{ℕ, List}
use Rattle.wit_order.specs.Order.{Has}

abbrev pub IsWithout : ℕ → List ℕ → Type 0
IsWithout mark text = Has text mark → ⊥

-- none of the marks that stand between names in the text of an interface: `:`, `/`, `@`
pub record IsPlain (text : List ℕ) : Type 0 where
  pub colon : IsWithout 58 text
  pub slash : IsWithout 47 text
  pub at : IsWithout 64 text
