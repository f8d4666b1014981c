-- What stays of a package, where it stands (WIT, Feature Gates).
use Rattle.std.specs.Prelude.{◌≡◌, ℕ, true, false, List, [], ◌∷◌, flat_map, if◌then◌else◌}
use Rattle.wit_finding.specs.Passed.wit_types-declared-interface-Interface.{Interface}
use Rattle.wit_finding.specs.Passed.wit_types-declared-world-World.{World}
use Rattle.wit_finding.specs.Passed.wit_types-declared-world-WorldInclude.{WorldInclude}
use Rattle.wit_finding.specs.Passed.wit_features-Features.{FeatureSet, stays}
use Rattle.wit_finding.specs.Passed.wit_moves-Moved.{Places, to}
use Rattle.wit_finding.specs.Passed.wit_moves-Interfaces.{IsMovedInterface}
use Rattle.wit_finding.specs.Passed.wit_moves-Worlds.{IsMovedSide}
use Rattle.wit_plans.specs.declared.moves.MovedWorld.{MovedWorld}
use Rattle.wit_plans.specs.Checks.{Standing}

-- interfaces that stay, in their order
pub data AreMovedInterfaces (features : FeatureSet) (s : Standing) (owner : ℕ) : List Interface → List Interface → Type 0 where
  no_interfaces : AreMovedInterfaces features s owner [] []
  interface_goes : (d : Interface) (ds es : List Interface) → stays features d.stability ≡ false → AreMovedInterfaces features s owner ds es → AreMovedInterfaces features s owner (d ∷ ds) es
  interface_stays : (d e : Interface) (ds es : List Interface) → stays features d.stability ≡ true → IsMovedInterface features s.types owner d e → AreMovedInterfaces features s owner ds es
      → AreMovedInterfaces features s owner (d ∷ ds) (e ∷ es)

-- an include that stays, of the world where that stands
abbrev pub moved_include : FeatureSet → Places → WorldInclude → List WorldInclude
moved_include features worlds n = if stays features n.stability then record n { id = to worlds n.id } ∷ [] else []

-- a world as it is without what it includes
pub record IsMovedWorld (features : FeatureSet) (s : Standing) (old : World) (new : MovedWorld) : Type 0 where
  pub name : new.name ≡ old.name
  pub imports : IsMovedSide features s.types s.interfaces old.imports.entries new.imports.items
  pub exports : IsMovedSide features s.types s.interfaces old.exports.entries new.exports.items
  pub docs : new.docs ≡ old.docs
  pub stability : new.stability ≡ old.stability
  pub includes : new.includes.items ≡ flat_map (moved_include features s.worlds) old.includes.items
  pub span : new.span ≡ old.span

-- worlds that stay, in their order
pub data AreMovedWorlds (features : FeatureSet) (s : Standing) : List World → List MovedWorld → Type 0 where
  no_worlds : AreMovedWorlds features s [] []
  world_goes : (w : World) (ws : List World) (ms : List MovedWorld) → stays features w.stability ≡ false → AreMovedWorlds features s ws ms → AreMovedWorlds features s (w ∷ ws) ms
  world_stays : (w : World) (m : MovedWorld) (ws : List World) (ms : List MovedWorld) → stays features w.stability ≡ true → IsMovedWorld features s w m → AreMovedWorlds features s ws ms
      → AreMovedWorlds features s (w ∷ ws) (m ∷ ms)

-- what one more adds
pub data AddsInterface (features : FeatureSet) (s : Standing) (owner : ℕ) (d : Interface) : List Interface → Type 0 where
  adds_no_interface : stays features d.stability ≡ false → AddsInterface features s owner d []
  adds_interface : (e : Interface) → stays features d.stability ≡ true → IsMovedInterface features s.types owner d e → AddsInterface features s owner d (e ∷ [])

pub data AddsWorld (features : FeatureSet) (s : Standing) (w : World) : List MovedWorld → Type 0 where
  adds_no_world : stays features w.stability ≡ false → AddsWorld features s w []
  adds_world : (m : MovedWorld) → stays features w.stability ≡ true → IsMovedWorld features s w m → AddsWorld features s w (m ∷ [])
