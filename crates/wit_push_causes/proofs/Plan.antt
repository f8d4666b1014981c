-- What a package holds has one place, and where all that stays has what it needs, none of it breaks.
use Rattle.std.proofs.Common.{◌≡◌, List, refl, sym, subst, ◌∙◌}
use Rattle.wit_words.specs.declared.source_map.Span.{Span}
use Rattle.wit_types.specs.declared.interface.Interface.{Interface}
use Rattle.wit_features.specs.Features.{FeatureSet}
use Rattle.wit_moves.specs.Moved.{Places}
use Rattle.wit_moves.specs.Plan.{OwnerPlaces, TypesBreak}
use Rattle.wit_plans.specs.Checks.{PartsBreak}
use Rattle.wit_plans.specs.Plans.{Parts, owners_of, found_of, standing, IsPlanned, PlanBreaks, type_breaks, part_breaks}
use Rattle.wit_plans.specs.declared.plans.Sizes.{Sizes}

module _ (features : FeatureSet) (graph : List Interface) (sizes : Sizes) (foreign : OwnerPlaces) (p : Parts) where
  pub plan_one : (owners others : OwnerPlaces) (types more : Places) → IsPlanned features graph sizes foreign p owners types → IsPlanned features graph sizes foreign p others more → (owners ≡ others) × (types ≡ more)
  plan_one owners others types more a b =
      let same : owners ≡ others = a.owners_are ∙ sym b.owners_are in
      (same, a.types_are.are ∙ rw same refl ∙ sym b.types_are.are)

  pub no_plan_breaks : (owners : OwnerPlaces) (types : Places) (at : Span) → IsPlanned features graph sizes foreign p owners types → PlanBreaks features graph sizes foreign p at → ⊥
  no_plan_breaks owners types at a (type_breaks b) =
      a.types_are.kept at (subst (λ (o : OwnerPlaces). TypesBreak features o (record { places = found_of graph foreign p; next = sizes.types }) p.types at) (sym a.owners_are) b)
  no_plan_breaks owners types at a (part_breaks others placed b) =
      let same : owners_of features sizes foreign p ≡ owners = sym a.owners_are in
      let types_same : others ≡ types = placed.are ∙ rw same refl ∙ sym a.types_are.are in
      a.kept at (subst (λ (o : OwnerPlaces). PartsBreak features (standing o types) p.interfaces p.worlds at) same
      (subst (λ (t : Places). PartsBreak features (standing (owners_of features sizes foreign p) t) p.interfaces p.worlds at) types_same b))
