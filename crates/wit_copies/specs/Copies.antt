-- Types of a world, copied into the world that includes it (WIT, Item: `include`).
use Rattle.std.specs.Prelude.{◌≡◌, ℕ, ◌+◌, List, [], ◌∷◌, Some, option_map, unwrap_or, position, slice_get, nat_eq, if◌then◌else◌}
use Rattle.wit_types.specs.declared.interface.TypeDef.{TypeDef}
use Rattle.wit_types.specs.declared.interface.TypeOwner.{TypeOwner}
use Rattle.wit_types.specs.declared.interface.TypeOwner.TheVariants as belongs
use Rattle.wit_types.specs.declared.world.WorldItem.{WorldItem}
use Rattle.wit_types.specs.declared.world_key.WorldKey.{WorldKey}
use Rattle.wit_moves.specs.Moved.{IsMovedDef}
use Rattle.wit_moves.specs.Worlds.{IsMovedItem}
use Rattle.wit_copies.specs.Same.{IsSameDef, IsSameItem, IsSameKey}

-- types that are copied, and the place of the first copy
pub record Copies : Type 0 where
  pub ids : List ℕ
  pub base : ℕ

-- where a type is found: one that is copied at its copy, which stand in the same order, any other where it was
abbrev pub goes : Copies → ℕ → ℕ
goes c i = unwrap_or (option_map (λ (k : ℕ). c.base + k) (position (nat_eq i) c.ids)) i

-- what belonged to the one world belongs to the other
abbrev pub copied_owner : ℕ → ℕ → TypeOwner → TypeOwner
copied_owner from into (belongs.World w) = belongs.World (if nat_eq w from then into else w)
copied_owner from into (belongs.Interface i) = belongs.Interface i
copied_owner from into belongs.None = belongs.None

-- ---- types

-- a clone, of the types where they are found
abbrev pub IsCopiedDef : Copies → ℕ → ℕ → TypeDef → TypeDef → Type 0
IsCopiedDef c from into old new = (clone : TypeDef) × IsSameDef old clone × IsMovedDef (goes c) (copied_owner from into old.owner) clone new

-- copies of the types at these ids, in their order
pub data AreCopied (c : Copies) (from into : ℕ) (defs : List TypeDef) : List ℕ → List TypeDef → Type 0 where
  no_types : AreCopied c from into defs [] []
  one_more : (i : ℕ) (d e : TypeDef) (is : List ℕ) (es : List TypeDef) → slice_get defs i ≡ Some d → IsCopiedDef c from into d e → AreCopied c from into defs is es
      → AreCopied c from into defs (i ∷ is) (e ∷ es)

-- ---- what a world imports or exports

-- a clone, of the types where they are found and of the same interfaces
abbrev pub IsCopiedItem : Copies → WorldItem → WorldItem → Type 0
IsCopiedItem c old new = (clone : WorldItem) × IsSameItem old clone × IsMovedItem (goes c) (λ (i : ℕ). i) clone new

-- each entry in its order
pub data AreCopiedEntries (c : Copies) : List (WorldKey × WorldItem) → List (WorldKey × WorldItem) → Type 0 where
  no_entries : AreCopiedEntries c [] []
  one_entry_more : (k l : WorldKey) (i j : WorldItem) (es fs : List (WorldKey × WorldItem)) → IsSameKey k l → IsCopiedItem c i j → AreCopiedEntries c es fs
      → AreCopiedEntries c ((k, i) ∷ es) ((l, j) ∷ fs)
