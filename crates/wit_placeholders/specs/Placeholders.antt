-- Interfaces and worlds of other packages that are asked for: nothing is known of them but their names, and where they are first asked for.
use Rattle.std.specs.Prelude.{◌≡◌, ℕ, ◌<◌, List, [], Some, None, length, slice_get, option_map, string_bytes}
use Rattle.wit_types.specs.declared.interface.Interface.{Interface}
use Rattle.wit_types.specs.declared.stability.Stability.TheVariants as stability
use Rattle.wit_types.specs.declared.world.World.{World}
use Rattle.wit_types.specs.declared.«package».AstItem.TheVariants as ids
use Rattle.wit_foreign.specs.Passed.wit_arena-Tree.{Owner}
use Rattle.wit_foreign.specs.Passed.wit_arena-Meaning.{Has}
use Rattle.wit_foreign.specs.Needs.{NeedTree}
use Rattle.wit_foreign.specs.Items.{Items, need_owner, interfaces_in, worlds_in}

-- the need is the first that asks for it
pub record IsFirstAsk (needs : List NeedTree) (w : Owner) (need : NeedTree) : Type 0 where
  pub place : ℕ
  pub there : slice_get needs place ≡ Some need
  pub is : need_owner need ≡ w
  pub first : (p : ℕ) (m : NeedTree) → p < place → slice_get needs p ≡ Some m → need_owner m ≡ w → ⊥

-- an interface under the name by which it is asked for, said to stand where that name first does
pub record IsUnknownInterface (needs : List NeedTree) (w : Owner) (d : Interface) : Type 0 where
  pub need : NeedTree
  pub first : IsFirstAsk needs w need
  pub name : option_map string_bytes d.name ≡ Some need.item.text
  pub types : d.types.entries ≡ []
  pub functions : d.functions.entries ≡ []
  pub docs : d.docs.contents ≡ None
  pub stability : d.stability ≡ stability.Unknown
  pub loose : d.«package» ≡ None
  pub span : d.span ≡ need.item.span

pub record IsUnknownWorld (needs : List NeedTree) (w : Owner) (d : World) : Type 0 where
  pub need : NeedTree
  pub first : IsFirstAsk needs w need
  pub name : string_bytes d.name ≡ need.item.text
  pub imports : d.imports.entries ≡ []
  pub exports : d.exports.entries ≡ []
  pub includes : d.includes.items ≡ []
  pub docs : d.docs.contents ≡ None
  pub stability : d.stability ≡ stability.Unknown
  pub loose : d.«package» ≡ None
  pub span : d.span ≡ need.item.span

-- one for each that is asked for, under its id
pub record ArePlaceholders (needs : List NeedTree) (items : Items) (fs : List Interface) (ws : List World) : Type 0 where
  pub so_many_interfaces : length fs ≡ interfaces_in items
  pub so_many_worlds : length ws ≡ worlds_in items
  pub interfaces : (w : Owner) (k : ℕ) (d : Interface) → Has items (w, ids.Interface k) → slice_get fs k ≡ Some d → IsUnknownInterface needs w d
  pub worlds : (w : Owner) (k : ℕ) (d : World) → Has items (w, ids.World k) → slice_get ws k ≡ Some d → IsUnknownWorld needs w d
