use Rattle.std.proofs.Common.{◌≡◌, ◌^◌, true, sym, subst, SFits, w64, rules}
use Rattle.std.proofs.lemmas.Int.{to_z-of_z}
use Rattle.binary_grammar.specs.Signed.{lies_in}
use Rattle.wasm_types.proofs.Integers.{signed_lies}
use Rattle.generated_sections.proofs.types.referred.Goals as goal

pub referred_at-requires : goal.referred_at-requires
referred_at-requires c =
    let wide : SFits w64 c.in_ok-number.number = search rules in
    subst (λ z. lies_in (2 ^ 32) z ≡ true) (sym (to_z-of_z w64 c.in_ok-number.number wide)) (signed_lies 33 _ _ _ c.in_ok-number.ensures.gives)
