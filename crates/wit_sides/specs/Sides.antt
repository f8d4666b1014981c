-- What stands on a side of a world that includes others (WIT, Item: `include`; Component Model, Name Uniqueness).
use Rattle.std.specs.Prelude.{◌≡◌, ℕ, Bool, true, false, List, [], ◌∷◌, ◌++◌, Some, map, flat_map, string_bytes, slice_get, bytes_eq, is_some, if◌then◌else◌}
use Rattle.std.specs.Map.{lookup}
use Rattle.wit_words.specs.declared.source_map.Span.{Span}
use Rattle.wit_words.specs.Slice.{Slice}
use Rattle.wit_words.specs.NameKey.{name_key}
use Rattle.wit_rules.specs.Repeats.{IsRepeat}
use Rattle.wit_types.specs.declared.world.WorldItem.{WorldItem}
use Rattle.wit_types.specs.declared.world_key.WorldKey.{WorldKey}
use Rattle.wit_types.specs.declared.world_key.WorldKey.TheVariants as key
use Rattle.wit_types.specs.WorldKey.{key_eq}
use Rattle.wit_types.specs.World.{span_of}
use Rattle.wit_sides.specs.declared.sides.SideFault.{SideFault}
use Rattle.wit_sides.specs.declared.sides.SideFault.TheVariants.{IncludeClash, OutOfMemory}

abbrev pub Entry : Type 0
Entry = WorldKey × WorldItem

-- the plain name of an entry, if it has one, and where it stands
abbrev pub plain_name : WorldKey → WorldItem → List Slice
plain_name (key.Name name) item = record { text = string_bytes name; span = span_of item } ∷ []
plain_name (key.Interface i) item = []

abbrev pub plain_names : List Entry → List Slice
plain_names es = flat_map (λ (e : Entry). plain_name e.0 e.1) es

abbrev pub name_keys : List Slice → List (List ℕ)
name_keys names = map (λ (n : Slice). name_key n.text) names

-- a plain name has the key of one before it: a clash at that name
pub record IsClash (es : List Entry) (at : Span) : Type 0 where
  pub place : ℕ
  pub again : IsRepeat bytes_eq (name_keys (plain_names es)) place
  pub there : slice_get (map (λ (n : Slice). n.span) (plain_names es)) place ≡ Some at

-- entries in their order, each key where it first stands
pub data AreUnited {K V : Type 0} (eq : K → K → Bool) : List (K × V) → List (K × V) → Type 0 where
  no_entries : AreUnited eq [] []
  first_of_its_key : (es side : List (K × V)) (e : K × V) → AreUnited eq es side → is_some (lookup (eq e.0) es) ≡ false → AreUnited eq (es ++ e ∷ []) (side ++ e ∷ [])
  key_again : (es side : List (K × V)) (e : K × V) → AreUnited eq es side → is_some (lookup (eq e.0) es) ≡ true → AreUnited eq (es ++ e ∷ []) side

-- the entries in their order, an interface that comes again being one with the first, and no plain names clash
pub record IsJoined (es side : List Entry) : Type 0 where
  pub entries : AreUnited key_eq es side
  pub distinct : (at : Span) → IsClash es at → ⊥

abbrev pub IsSideCause : List Entry → SideFault → Type 0
IsSideCause es (IncludeClash at) = IsClash es at
IsSideCause es OutOfMemory = Unit {0}

-- ---- the same, worked out

-- with an entry, which goes last where its key isn't there yet
module _ {K V : Type 0} (eq : K → K → Bool) where
  abbrev pub with_entry : List (K × V) → K × V → List (K × V)
  with_entry side e = if is_some (lookup (eq e.0) side) then side else side ++ e ∷ []

  abbrev pub with_entries : List (K × V) → List (K × V) → List (K × V)
  with_entries side [] = side
  with_entries side (e ∷ es) = with_entries (with_entry side e) es
