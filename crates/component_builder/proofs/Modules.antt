-- The sections of core modules.
use Rattle.std.proofs.Common.{◌≡◌, ℕ, ◌<◌, ◌^◌, List, [], ◌∷◌, ◌++◌, length, ap, refl, ◌∙◌, append_assoc}
use Rattle.std.proofs.lemmas.List.{append-nil}
use Rattle.binary_grammar.specs.Syntax.{u32_bytes}
use Rattle.component_sections.specs.Component.{DefinitionValue, a_core_module, section_next, section_id_of, section_of, first_section, section_bytes, IsSection}
use Rattle.component_sections.proofs.WholeSections.{own_front}

-- a core module has its section for itself
pub module_alone : (xs : List ℕ) (ds : List DefinitionValue) → first_section (a_core_module xs ∷ ds) ≡ a_core_module xs ∷ []
module_alone xs ds = own_front (a_core_module xs) ds refl

pub alone_where : (xs : List ℕ) (d : DefinitionValue) (ds : List DefinitionValue) → d ≡ a_core_module xs → first_section (d ∷ ds) ≡ a_core_module xs ∷ []
alone_where xs d ds e = ap (λ x. first_section (x ∷ ds)) e ∙ module_alone xs ds

pub module_spelled : (xs : List ℕ) → section_bytes (section_of (a_core_module xs ∷ [])) ≡ 1 ∷ (u32_bytes (length xs) ++ xs)
unfolding section_next section_id_of
module_spelled xs = ap (λ s. 1 ∷ s) (append-nil _ ∙ append-nil _)

pub module_typed : (xs : List ℕ) → length xs < 2 ^ 32 → IsSection (section_of (a_core_module xs ∷ []))
unfolding section_next section_id_of
module_typed xs h = (((tt, h), tt), tt)

pub typed_module : (xs : List ℕ) → IsSection (section_of (a_core_module xs ∷ [])) → length xs < 2 ^ 32
unfolding section_next section_id_of
typed_module xs h = h.0.0.1

pub arranged : (done made size xs : List ℕ) → (done ++ ((made ++ 1 ∷ []) ++ size)) ++ xs ≡ (done ++ made) ++ (1 ∷ (size ++ xs))
arranged done made size xs = simp append_assoc
