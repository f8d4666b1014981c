-- What is always so of the input stays so.
use Rattle.std.proofs.Common.{◌≡◌, ℕ, ◌<◌, ◌+◌, Bool, List, [], length, length-append, Option, None, Result, Ok, Err, IfOk, OnOk, OnErr, sym, ap, subst, ◌∙◌, arith}
use Rattle.std.specs.Option.{ForSome}
use Rattle.handed_modules.specs.Modules.{ModuleInput}
use Rattle.wit_features.specs.Features.{FeatureSet}
use Rattle.wit_order.specs.Order.{Has}
use Rattle.linked_components.specs.Passed.wit_graph-Push.{HasMorePackages}
use Rattle.text_graphs.specs.Passed.wit_resolution-Pushes.{Resolved, nothing_resolved, AreTextsPushed, AreTextsRefused}
use Rattle.wit_types.specs.declared.«package».PackageName.{PackageName}
use Rattle.wit_types.specs.declared.world.World.{World}
use Rattle.wit_words.specs.Sources.{SourceText}
use Rattle.text_graphs.specs.Coming.{nothing, after, features, pushed, refused}
use Rattle.component_session.specs.Input.{worlds_of}
use Rattle.component_session.specs.Kept.{WellKept}

-- the worlds of modules are there
abbrev AreThere : List ModuleInput → List World → Type 0
AreThere ms worlds = (m : ModuleInput) → Has ms m → m.world < length worlds

module _ (old new : Resolved) (more : HasMorePackages old.graph new.graph) where
  -- more worlds are there
  still_there : (w : ℕ) → w < length (worlds_of old) → w < length (worlds_of new)
  still_there w below = (
      let many : length (worlds_of new) ≡ length (worlds_of old) + length more.tables.elaborated = ap length more.tables.elaborated_are ∙ length-append (worlds_of old) more.tables.elaborated in
      omega (arith, below, many))

module _ (eq : PackageName → PackageName → Bool) (old new : Resolved) (world : Option ℕ) (modules : List ModuleInput) (files : List (List SourceText)) (kept : WellKept eq old world modules) where
  -- whether texts were pushed or refused
  pub kept_after : {E : Type 0} (r : Result ℕ E) → IfOk r (AreTextsPushed eq old files new) → OnOk r (HasMorePackages old.graph new.graph) → OnErr r (AreTextsRefused eq old files new) → WellKept eq new world modules
  kept_after (Ok id) is more none = record {
    come = after old new kept.come (pushed files id is);
    chosen = λ w e. still_there old new more w (kept.chosen w e);
    there = λ m has. still_there old new more m.world (kept.there m has);
    handed = kept.handed;
  }
  kept_after (Err e) none more is = record {
    come = after old new kept.come (refused files is);
    chosen = subst (λ (ws : List World). ForSome world (λ w. w < length ws)) (sym (ap (λ (g : _). g.tables.worlds.elaborated) is.kept.graph)) kept.chosen;
    there = subst (AreThere modules) (sym (ap (λ (g : _). g.tables.worlds.elaborated) is.kept.graph)) kept.there;
    handed = kept.handed;
  }

module _ (eq : PackageName → PackageName → Bool) (old new : Resolved) (world : Option ℕ) (modules : List ModuleInput) (kept : WellKept eq old world modules) where
  -- other features are active
  pub kept_features : (set : FeatureSet) → new ≡ record old { features = set } → WellKept eq new world modules
  kept_features set is = record { come = after old new kept.come (features set is); chosen = subst (λ (r : Resolved). ForSome world (λ w. w < length (worlds_of r))) (sym is) kept.chosen; there = subst (λ (r : Resolved). AreThere modules (worlds_of r)) (sym is) kept.there; handed = kept.handed }

  -- or memory was wanting
  pub kept_feature : {E : Type 0} (r : Result (Unit {0}) E) (set : FeatureSet) → OnOk r (new ≡ record old { features = set }) → OnErr r (new ≡ old) → WellKept eq new world modules
  kept_feature (Ok u) set is same = kept_features set is
  kept_feature (Err e) set is same = subst (λ (r : Resolved). WellKept eq r world modules) (sym same) kept

pub first_kept : (eq : PackageName → PackageName → Bool) (r : Resolved) → r ≡ nothing_resolved → WellKept eq r None []
first_kept eq r is = subst (λ (x : Resolved). WellKept eq x None []) (sym is) (record { come = nothing; chosen = λ w e. absurd cc; there = λ m has. absurd has; handed = λ m has. absurd has })
