-- Types without names in an arena that is whole belong nowhere.
use Rattle.std.proofs.Common.{◌≡◌, ℕ, List, Option, Some, None, refl, subst}
use Rattle.std.specs.Prelude.{slice_get, String}
use Rattle.std.specs.declared.alloc.Global.{Global}
use Rattle.wit_types.specs.declared.kind.TypeDefKind.{TypeDefKind}
use Rattle.wit_types.specs.declared.interface.TypeDef.{TypeDef}
use Rattle.wit_types.specs.declared.interface.TypeOwner.{TypeOwner}
use Rattle.wit_types.specs.declared.interface.TypeOwner.TheVariants as belongs
use Rattle.wit_package.specs.Passed.wit_arena-Tree.{Name, Owner, Tree, resource_leaf}
use Rattle.wit_package.specs.Passed.wit_arena-Unfold.{Owners, nameless_tree, def_tree_of, trees, IsWhole}
use Rattle.wit_package.proofs.Passed.wit_arena-Unfolding.{def_at}

-- what is given for names of other packages: each by itself
abbrev pub by_name : Owner → Name → Tree
by_name o x = resource_leaf o x

nameless_none : (done : List (Option Tree)) (o : TypeOwner) (k : TypeDefKind) (t : Tree) → nameless_tree done o k ≡ Some t → o ≡ belongs.None
nameless_none done belongs.None k t h = refl
nameless_none done (belongs.World w) k t h = absurd cc
nameless_none done (belongs.Interface i) k t h = absurd cc

pub nameless_free : (owners : Owners) (a : List TypeDef) → IsWhole owners by_name a → (i : ℕ) (d : TypeDef) → slice_get a i ≡ Some d → d.name ≡ None → d.owner ≡ belongs.None
nameless_free owners a whole i d at none =
    let w = def_at owners by_name a i d whole at in
    nameless_none (trees owners by_name a) d.owner d.kind w.0 (subst (λ (n : Option (String Global)). def_tree_of owners by_name (trees owners by_name a) n d.owner d.kind ≡ Some w.0) none w.2)
