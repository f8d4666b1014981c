-- Which types of a package stay, and where they stand (WIT, Feature Gates).
use Rattle.std.specs.Prelude.{◌≡◌, ℕ, ◌+◌, Bool, true, false, ◌&&◌, List, [], ◌∷◌, ◌++◌, Option, Some, None, String, length, slice_get, take}
use Rattle.std.specs.declared.alloc.Global.{Global}
use Rattle.wit_features.specs.Passed.wit_words-declared-source_map-Span.{Span}
use Rattle.wit_features.specs.Passed.wit_types-declared-interface-TypeDef.{TypeDef}
use Rattle.wit_features.specs.Passed.wit_types-declared-interface-TypeOwner.{TypeOwner}
use Rattle.wit_features.specs.Passed.wit_types-declared-interface-TypeOwner-TheVariants as belongs
use Rattle.wit_features.specs.Features.{FeatureSet, stays}
use Rattle.wit_moves.specs.declared.plan.MoveFault.{MoveFault}
use Rattle.wit_moves.specs.declared.plan.MoveFault.TheVariants.{ItemNotFound, OutOfMemory}
use Rattle.wit_moves.specs.Moved.{Places, is_placed, to, is_kind_placed, IsMovedDef}

-- where interfaces and worlds stand
pub record OwnerPlaces : Type 0 where
  pub interfaces : Places
  pub worlds : Places

abbrev pub is_owner_placed : OwnerPlaces → TypeOwner → Bool
is_owner_placed owners (belongs.World w) = is_placed owners.worlds w
is_owner_placed owners (belongs.Interface i) = is_placed owners.interfaces i
is_owner_placed owners belongs.None = true

abbrev pub moved_owner : OwnerPlaces → TypeOwner → TypeOwner
moved_owner owners (belongs.World w) = belongs.World (to owners.worlds w)
moved_owner owners (belongs.Interface i) = belongs.Interface (to owners.interfaces i)
moved_owner owners belongs.None = belongs.None

-- one with a name stays where its gates let it and what it belongs to does, one without where all that it is made of does
abbrev pub named_stays : FeatureSet → OwnerPlaces → Places → TypeDef → Option (String Global) → Bool
named_stays features owners places d None = is_kind_placed places d.kind
named_stays features owners places d (Some x) = stays features d.stability && is_owner_placed owners d.owner

abbrev pub type_stays : FeatureSet → OwnerPlaces → Places → TypeDef → Bool
type_stays features owners places d = named_stays features owners places d d.name

-- where types stand so far, and the number of the place that is next
pub record Plan : Type 0 where
  pub places : Places
  pub next : ℕ

-- one more: it takes the next place, if it stays
abbrev pub with_place : Bool → Plan → Plan
with_place true p = record { places = p.places ++ Some p.next ∷ []; next = p.next + 1 }
with_place false p = record { places = p.places ++ None ∷ []; next = p.next }

abbrev pub with_type : FeatureSet → OwnerPlaces → Plan → TypeDef → Plan
with_type features owners p d = with_place (type_stays features owners p.places d) p

abbrev pub with_types : FeatureSet → OwnerPlaces → Plan → List TypeDef → Plan
with_types features owners p [] = p
with_types features owners p (d ∷ ds) = with_types features owners (with_type features owners p d) ds

-- the type at a place stays, and is made of one that doesn't
pub record BreaksAt (features : FeatureSet) (owners : OwnerPlaces) (p : Plan) (ds : List TypeDef) (place : ℕ) (d : TypeDef) : Type 0 where
  pub there : slice_get ds place ≡ Some d
  pub stays : type_stays features owners (with_types features owners p (take place ds)).places d ≡ true
  pub unplaced : is_kind_placed (with_types features owners p (take place ds)).places d.kind ≡ false

-- one of them does: a break at the type
pub record TypesBreak (features : FeatureSet) (owners : OwnerPlaces) (p : Plan) (ds : List TypeDef) (at : Span) : Type 0 where
  pub place : ℕ
  pub one : TypeDef
  pub breaks : BreaksAt features owners p ds place one
  pub stands : one.span ≡ at

-- behind others that have places, from a number on, and none breaks
pub record AreTypesPlaced (features : FeatureSet) (owners : OwnerPlaces) (others : Places) (base : ℕ) (ds : List TypeDef) (places : Places) : Type 0 where
  pub are : places ≡ (with_types features owners (record { places = others; next = base }) ds).places
  pub kept : (at : Span) → TypesBreak features owners (record { places = others; next = base }) ds at → ⊥

abbrev pub IsPlaceCause : FeatureSet → OwnerPlaces → Places → ℕ → List TypeDef → MoveFault → Type 0
IsPlaceCause features owners others base ds OutOfMemory = Unit {0}
IsPlaceCause features owners others base ds (ItemNotFound at) = TypesBreak features owners (record { places = others; next = base }) ds at

-- ---- moved

-- those of types that stand somewhere, in their order; the first has that number
pub data AreMovedDefs (owners : OwnerPlaces) (places : Places) (first : ℕ) : List TypeDef → List TypeDef → Type 0 where
  no_defs : AreMovedDefs owners places first [] []
  left_out : (ds es : List TypeDef) (d : TypeDef) → AreMovedDefs owners places first ds es → is_placed places (first + length ds) ≡ false → AreMovedDefs owners places first (ds ++ d ∷ []) es
  moved : (ds es : List TypeDef) (d e : TypeDef) → AreMovedDefs owners places first ds es → is_placed places (first + length ds) ≡ true → IsMovedDef (to places) (moved_owner owners d.owner) d e
      → AreMovedDefs owners places first (ds ++ d ∷ []) (es ++ e ∷ [])

-- what one more type adds
pub data AddsDef (owners : OwnerPlaces) (places : Places) (i : ℕ) (d : TypeDef) (es : List TypeDef) : List TypeDef → Type 0 where
  adds_nothing : is_placed places i ≡ false → AddsDef owners places i d es es
  adds_it : (e : TypeDef) → is_placed places i ≡ true → IsMovedDef (to places) (moved_owner owners d.owner) d e → AddsDef owners places i d es (es ++ e ∷ [])
