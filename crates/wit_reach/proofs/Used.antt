-- What another name is of is what it is made of.
use Rattle.std.proofs.Common.{◌≡◌, ℕ, Option, Some, None, inl, sym, refl}
use Rattle.std.specs.Prelude.{IfSome}
use Rattle.std.proofs.lemmas.Option.{same_Some}
use Rattle.wit_types.specs.declared.kind.«Type».{«Type» as Ref}
use Rattle.wit_types.specs.declared.kind.«Type».TheVariants as ref
use Rattle.wit_types.specs.declared.kind.TypeDefKind.{TypeDefKind}
use Rattle.wit_types.specs.declared.kind.TypeDefKind.TheVariants as kind
use Rattle.wit_types.specs.Passed.wit_order-Order.{Has}
use Rattle.wit_reach.specs.Ids.{kind_ids, ref_ids}
use Rattle.wit_reach.specs.Deps.{alias_target, ref_id}

ref_has : (r : Ref) (i : ℕ) → ref_id r ≡ Some i → Has (ref_ids r) i
ref_has (ref.Id j) i e = inl (sym (same_Some j i e))
ref_has _ i e = absurd cc

pub target_has : (k : TypeDefKind) (i : ℕ) → alias_target k ≡ Some i → Has (kind_ids k) i
target_has (kind.Alias r) i e = ref_has r i e
target_has _ i e = absurd cc

-- what is there has what all that is there has
pub if_some : {P : ℕ → Type 0} (o : Option ℕ) → ((j : ℕ) → o ≡ Some j → P j) → IfSome o P
if_some None f = tt
if_some (Some j) f = f j refl
