-- What is refused last is a cause of all of it.
use Rattle.std.proofs.Common.{◌≡◌, List, subst}
use Rattle.wit_finding.specs.Passed.wit_types-declared-interface-Interface.{Interface}
use Rattle.wit_finding.specs.Passed.wit_features-Features.{FeatureSet}
use Rattle.wit_finding.specs.Passed.wit_moves-declared-plan-MoveFault.{MoveFault}
use Rattle.wit_finding.specs.Passed.wit_moves-declared-plan-MoveFault-TheVariants.{ItemNotFound, OutOfMemory}
use Rattle.wit_finding.specs.Passed.wit_moves-Moved.{Places}
use Rattle.wit_finding.specs.Passed.wit_moves-Plan.{OwnerPlaces, AreTypesPlaced}
use Rattle.wit_plans.specs.declared.plans.Sizes.{Sizes}
use Rattle.wit_plans.specs.Checks.{PartsBreak, IsCauseOf}
use Rattle.wit_plans.specs.Plans.{Parts, owners_of, found_of, standing, part_breaks, IsPlanCause}

module _ (features : FeatureSet) (graph : List Interface) (sizes : Sizes) (foreign : OwnerPlaces) (p : Parts) where
  pub part_cause : (owners : OwnerPlaces) (found types : Places) (fault : MoveFault) → owners ≡ owners_of features sizes foreign p → found ≡ found_of graph foreign p → AreTypesPlaced features owners found sizes.types p.types types
      → IsCauseOf (PartsBreak features (standing owners types) p.interfaces p.worlds) fault → IsPlanCause features graph sizes foreign p fault
  part_cause owners found types (ItemNotFound at) e f placed breaks =
      part_breaks types
      (subst (λ (o : OwnerPlaces). AreTypesPlaced features o (found_of graph foreign p) sizes.types p.types types) e (subst (λ (q : Places). AreTypesPlaced features owners q sizes.types p.types types) f placed))
      (subst (λ (o : OwnerPlaces). PartsBreak features (standing o types) p.interfaces p.worlds at) e breaks)
  part_cause owners found types OutOfMemory e f placed breaks = tt
