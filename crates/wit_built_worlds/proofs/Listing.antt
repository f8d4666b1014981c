-- The types of a world are listed in it, and those of the interfaces that stand in it in these.
use Rattle.std.proofs.Common.{◌≡◌, ℕ, List, [], ◌∷◌, ◌++◌, length, append-nil, sym, subst, ap, ◌∙◌}
use Rattle.std.specs.Prelude.{slice_get}
use Rattle.wit_types.specs.declared.function.Function.{Function}
use Rattle.wit_types.specs.declared.interface.Interface.{Interface}
use Rattle.wit_types.specs.declared.interface.TypeDef.{TypeDef}
use Rattle.wit_types.specs.declared.interface.TypeOwner.{TypeOwner}
use Rattle.wit_types.specs.declared.interface.TypeOwner.TheVariants as belongs
use Rattle.wit_types.specs.declared.world.World.{World}
use Rattle.wit_types.specs.declared.world.WorldItem.{WorldItem}
use Rattle.wit_scopes.specs.Scopes.{WorldScope}
use Rattle.wit_interfaces.specs.Passed.wit_orders-Needs.{types_of}
use Rattle.wit_interfaces.specs.Passed.wit_arena-Tree.{Name, in_world}
use Rattle.wit_interfaces.specs.Passed.wit_arena-Table.{Entries}
use Rattle.wit_interfaces.specs.Passed.wit_arena-Meaning.{Has}
use Rattle.wit_interfaces.proofs.Passed.wit_arena-Lists.{get_last, has_here, has_left}
use Rattle.wit_interfaces.specs.Passed.wit_package_types-Known.{KnownTypes}
use Rattle.wit_interfaces.specs.Passed.wit_resolved_scopes-Scope.{ResolvesScope}
use Rattle.wit_interfaces.specs.Passed.wit_resolved_scopes-InArena.{Context, GrowsFor}
use Rattle.wit_interfaces.specs.Passed.wit_resolved_scopes-Texts.{labelled_texts, own_members}
use Rattle.wit_interfaces.specs.Passed.wit_resolved_scopes-Listed.{IsListedIn}
use Rattle.wit_interfaces.proofs.Passed.wit_resolved_scopes-Eaches.{each_left}
use Rattle.wit_interfaces.proofs.Passed.wit_resolved_scopes-Listing.{none_new, new_through, resolved_listed}
use Rattle.wit_interfaces.specs.Adding.{MayBring}
use Rattle.wit_interfaces.specs.Listed.{ScopeTexts, of_world, ImportsType, IsListedAt, IsListed, NewTypesAreListed}
use Rattle.wit_interfaces.proofs.Listing.{listed_through, listed_at}
use Rattle.wit_worlds.specs.Paths.{PathsTree}
use Rattle.wit_worlds.specs.Worlds.{Entry, IsTypeEntry}
use Rattle.wit_worlds.specs.Making.{MakesWorld}

-- a world imports the types of its scope
imports_type : (ps : PathsTree) (w : WorldScope) (a : List TypeDef) (table : Entries) (fs : List Function) (ids : List ℕ) (d : World) → MakesWorld ps w a table fs ids d → (x : Name) (i : ℕ) → Has table (x, i) → ImportsType d i
imports_type ps w a table fs ids d makes x i (n, at) =
    let one = each_left (IsTypeEntry a) table makes.type_entries makes.type_entries_are n (x, i) at in
    let e : Entry = one.0 in
    let is = one.2 in
    let has = subst (λ (es : List Entry). Has es e) (sym makes.is.imports_are) (has_left makes.type_entries makes.other_imports e (n, one.1)) in
    (e.0, is.def.span, subst (λ (it : WorldItem). Has d.imports.entries (e.0, it)) is.item has)

-- what is listed where there are no worlds is where there are some
more_worlds : (c : Context) (ts : ScopeTexts) (a : List TypeDef) (interfaces : List Interface) (worlds : List World) (i : ℕ) (t : TypeDef) (o : TypeOwner) → IsListedAt c ts a interfaces [] i t o → IsListedAt c ts a interfaces worlds i t o
more_worlds c ts a interfaces worlds i t belongs.None is = is
more_worlds c ts a interfaces worlds i t (belongs.Interface j) is = is
more_worlds c ts a interfaces worlds i t (belongs.World w) (d, at, has) = absurd cc

module _ (c : Context) (k : KnownTypes) (a b d : List TypeDef) (table : Entries) (fs : List Function) (interfaces interfaces2 more : List Interface) (interfaces_behind : interfaces2 ≡ interfaces ++ more) (worlds worlds2 : List World) (w : WorldScope)
    (may : MayBring c (in_world w.name.text) (belongs.World (length worlds)) k a (own_members w.members)) (resolves : ResolvesScope k (belongs.World (length worlds)) a (types_of (own_members w.members)) (own_members w.members) b table fs)
    (grows : GrowsFor c b d) (labelled : NewTypesAreListed c (record { interfaces = labelled_texts w; worlds = [] }) interfaces2 [] b d) (made : World) (behind : worlds2 ≡ worlds ++ made ∷ []) (ps : PathsTree) (ids : List ℕ) (makes : MakesWorld ps w d table fs ids made)
  where
    abbrev alone : ScopeTexts
    alone = record { interfaces = []; worlds = w ∷ [] }

    abbrev labelled_alone : ScopeTexts
    labelled_alone = record { interfaces = labelled_texts w; worlds = [] }

    own : (i : ℕ) (t : TypeDef) → IsListedIn c (in_world w.name.text) (own_members w.members) (belongs.World (length worlds)) b table i t → IsListed c alone b interfaces worlds2 i t
    own =
        listed_at c alone (in_world w.name.text) (own_members w.members) (of_world w (has_here w [])) b interfaces worlds2 (belongs.World (length worlds)) table
        (λ x i t has. (made, ap (λ (ds : List World). slice_get ds (length worlds)) behind ∙ get_last worlds made, imports_type ps w d table fs ids made makes x i has))

    own_listed : NewTypesAreListed c alone interfaces worlds2 a b
    own_listed =
        new_through (IsListedIn c (in_world w.name.text) (own_members w.members) (belongs.World (length worlds)) b table) (IsListed c alone b interfaces worlds2) (IsListed c alone b interfaces worlds2) a b b own (λ i t is. is)
        (resolved_listed c (in_world w.name.text) (belongs.World (length worlds)) k a b (own_members w.members) table fs may.of_scope may.built resolves) (none_new (IsListed c alone b interfaces worlds2) b)

    also : NewTypesAreListed c labelled_alone interfaces2 worlds2 b d
    also =
        new_through (IsListed c labelled_alone d interfaces2 []) (IsListed c labelled_alone d interfaces2 worlds2) (IsListed c labelled_alone d interfaces2 worlds2) b d d
        (λ i t is. more_worlds c labelled_alone d interfaces2 worlds2 i t t.owner is) (λ i t is. is) labelled (none_new (IsListed c labelled_alone d interfaces2 worlds2) d)

    pub world_listed : NewTypesAreListed c (record { interfaces = labelled_texts w; worlds = w ∷ [] }) interfaces2 worlds2 a d
    world_listed = listed_through c interfaces interfaces2 more interfaces_behind worlds2 worlds2 [] (sym (append-nil worlds2)) alone labelled_alone a b d grows own_listed also
