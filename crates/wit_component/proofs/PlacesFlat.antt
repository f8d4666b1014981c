-- A core type that isn't the one of a function.
use Rattle.std.proofs.Common.{◌≡◌, ℕ, ◌<◌, List, [], ◌∷◌, length, get_or, map, refl, ap, ◌∙◌}
use Rattle.std.proofs.lemmas.List.{get_or-map}
use Rattle.wasm_types.specs.declared.types.ValType.{ValType}
use Rattle.plain_worlds.specs.declared.world.Param.{Param}
use Rattle.plain_worlds.specs.World.{param_item}
use Rattle.wit_component.specs.Flat.{flat_value}

values_of : (ps : List Param) → map (λ p. flat_value p.ty) (map param_item ps) ≡ map (λ (p : Param). flat_value p.ty) ps
values_of [] = refl
values_of (p ∷ ps) = ap (λ vs. flat_value p.ty ∷ vs) (values_of ps)

-- where one value is another, the lists are
pub not_flat_at : (vs : List ValType) (ps : List Param) (i : ℕ) (v : ValType) (p : Param) → i < length ps → (get_or vs i v ≡ flat_value (get_or ps i p).ty → ⊥)
    → vs ≡ map (λ p. flat_value p.ty) (map param_item ps) → ⊥
not_flat_at vs ps i v p lt differs same =
    differs (ap (λ l. get_or l i v) (same ∙ values_of ps) ∙ get_or-map (λ (q : Param). flat_value q.ty) ps i p v lt)
