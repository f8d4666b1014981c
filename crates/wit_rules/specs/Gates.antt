-- Which gates may stand in front of an item (WIT, Feature Gates).
use Rattle.std.specs.Prelude.{List, [], ◌∷◌, map, Option, Some, None}
use Rattle.wit_scopes.specs.Passed.wit_words-Slice.{Slice}
use Rattle.wit_scopes.specs.Passed.wit_items-ItemTree.{GateTree, since, unstable, deprecated, AttributeTree}

-- no gate; a feature; a version, each of the latter with the version from which on the item is deprecated
pub data GatesTree : Type 0 where
  ungated : GatesTree
  of_feature : Slice → Option Slice → GatesTree
  from_version : Slice → Option Slice → GatesTree

-- `since` or `unstable`, with `deprecated` beside it or without
abbrev pub with_deprecated : GateTree → Option Slice → Option GatesTree
with_deprecated (since v) d = Some (from_version v d)
with_deprecated (unstable f) d = Some (of_feature f d)
with_deprecated (deprecated e) d = None

-- none; one of those alone; or with one `deprecated`, in either order
abbrev pub gates_of : List GateTree → Option GatesTree
gates_of [] = Some ungated
gates_of (g ∷ []) = with_deprecated g None
gates_of (g ∷ deprecated d ∷ []) = with_deprecated g (Some d)
gates_of (deprecated d ∷ g ∷ []) = with_deprecated g (Some d)
gates_of _ = None

abbrev pub gates_in : List AttributeTree → Option GatesTree
gates_in attributes = gates_of (map (λ a. a.gate) attributes)
