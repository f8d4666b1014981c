-- What the types and functions of a package's interfaces mean is of these and of earlier ones.
use Rattle.std.proofs.Common.{◌≡◌, ℕ, ◌+◌, ◌<◌, ◌≤◌, List, ◌++◌, ◌⊎◌, inl, inr, length, Some, None, Option, map, refl, sym, ap, ◌∙◌, arith}
use Rattle.std.proofs.lemmas.Option.{same_Some, slice_get-map, slice_get_within}
use Rattle.std.specs.Prelude.{slice_get, option_map}
use Rattle.wit_words.specs.Slice.{Slice}
use Rattle.wit_types.specs.declared.interface.TypeOwner.{TypeOwner}
use Rattle.wit_types.specs.declared.interface.TypeOwner.TheVariants as belongs
use Rattle.wit_productions.specs.TypeTree.{TypeTree, TypeOption}
use Rattle.wit_package.specs.Passed.wit_syntax-Ast.{PackageNameTree, FileTree}
use Rattle.wit_package.specs.Passed.wit_scopes-Paths.{foreign}
use Rattle.wit_package.specs.Passed.wit_scopes-Members.{used}
use Rattle.wit_package.specs.Passed.wit_scopes-Scopes.{ItemScope, package_scopes}
use Rattle.wit_package.specs.Passed.wit_arena-Tree.{Name, PackageText, Place, in_interface, in_world, Owner, Tree, TreeOption, Trees}
use Rattle.wit_package.specs.Passed.wit_arena-Meaning as means
use Rattle.wit_package.specs.Passed.wit_arena-Meaning.{Declares, package_text, parts, Means, MeansPart, MeansParts, MeansName}
use Rattle.wit_package.specs.Passed.wit_arena-Unfold.{Owners, owner_of}
use Rattle.wit_package.proofs.Passed.wit_interfaces-Behind.{get_either}
use Rattle.wit_package.specs.Passed.wit_resolved_scopes-Each.{AreApartBy}
use Rattle.wit_package.specs.Passed.wit_resolved_scopes-Texts.{InterfaceText, interfaces_of, worlds_of, interface_texts, AreItemsSorted}
use Rattle.wit_package.specs.Passed.wit_resolved_scopes-Fit.{Foreign, AreInterfacesReady, AreWorldsReady}
use Rattle.wit_labels.specs.Passed.wit_type_names-TypeNames.{field_parts, case_parts}
use Rattle.wit_reach.specs.Holding.{IsUpTo}
use Rattle.wit_labels.proofs.Passed.wit_copied_trees-Owners.{IsIn, IsInPart, IsInParts, has_value}
use Rattle.wit_well_formed.proofs.Nameless.{by_name}
use Rattle.wit_well_formed.proofs.Apart.{text_place}
use Rattle.wit_well_formed.proofs.Order.{no_world, in_front}
use Rattle.wit_well_formed.proofs.Others.{other_package}

-- whose the interfaces of a package are, which stand behind others
abbrev pub owners_behind : PackageText → List ItemScope → List Owner → List Owner → Owners
owners_behind me sorted others all_worlds = record { interfaces = others ++ map (λ (t : InterfaceText). record { package_text = me; place = t.place }) (interface_texts sorted); worlds = all_worlds }

-- what belongs to it belongs to that interface or to an earlier one
abbrev pub IsOwnerUpTo : Owners → ℕ → Owner → Type 0
IsOwnerUpTo owners a w = (o : TypeOwner) → owner_of owners o ≡ Some w → IsUpTo a o

up_to_more : (a b : ℕ) (o : TypeOwner) → a ≤ b → IsUpTo a o → IsUpTo b o
up_to_more a b belongs.None less h = tt
up_to_more a b (belongs.Interface j) less h = (let l : j ≤ a = h in omega (arith, l, less))
up_to_more a b (belongs.World w) less h = absurd h

-- each is of a world
abbrev pub AreOfWorlds : List Owner → Type 0
AreOfWorlds ws = (v : ℕ) (w : Owner) → slice_get ws v ≡ Some w → (x : Name) × (w.place ≡ in_world x)

module _ (me : PackageNameTree) (files : List FileTree) (sorted : List ItemScope) (are : AreItemsSorted (package_scopes me files) sorted) (others : Foreign) (interfaces_ready : AreInterfacesReady others (interfaces_of sorted))
    (worlds_ready : AreWorldsReady (interfaces_of sorted) others (worlds_of sorted)) (apart : AreApartBy text_place (interface_texts sorted)) (others_interfaces all_worlds : List Owner) (of_worlds : AreOfWorlds all_worlds)
  where
    abbrev scopes : List ItemScope
    scopes = package_scopes me files

    abbrev first : ℕ
    first = length others_interfaces

    abbrev owners : Owners
    owners = owners_behind (package_text me) sorted others_interfaces all_worlds

    abbrev own_of : InterfaceText → Owner
    own_of t = record { package_text = package_text me; place = t.place }

    abbrev own_at : Place → Owner
    own_at o = record { package_text = package_text me; place = o }

    abbrev own_interfaces : List Owner
    own_interfaces = map own_of (interface_texts sorted)

    -- ---- whose an interface is

    -- of another package, or its own
    abbrev IsOwn : ℕ → Owner → Type 0
    IsOwn j w = (k : ℕ) × (t : InterfaceText) × (j ≡ first + k) × (slice_get (interface_texts sorted) k ≡ Some t) × (own_of t ≡ w)

    own_or_other : (j : ℕ) (w : Owner) → slice_get owners.interfaces j ≡ Some w → (j < first) ⊎ IsOwn j w
    own_or_other j w at = elim (get_either others_interfaces own_interfaces j w at) as (λ _. (j < first) ⊎ IsOwn j w) [
      | inl b ↦ inl (slice_get_within others_interfaces j w b)
      | inr b ↦ inr (by b.0 b.1 b.2 (slice_get (interface_texts sorted) b.0) refl)
    ]
      where
        by : (k : ℕ) → j ≡ first + k → slice_get own_interfaces k ≡ Some w → (o : Option InterfaceText) → slice_get (interface_texts sorted) k ≡ o → IsOwn j w
        by k place h None e = absurd (let f : None ≡ Some w = sym (ap (option_map own_of) e) ∙ sym (slice_get-map own_of (interface_texts sorted) k) ∙ h in cc)
        by k place h (Some t) e = (k, t, place, e, same_Some (own_of t) w (sym (ap (option_map own_of) e) ∙ sym (slice_get-map own_of (interface_texts sorted) k) ∙ h))

    abbrev UpTo : ℕ → Owner → Type 0
    UpTo m w = IsOwnerUpTo owners (first + m) w

    -- the place of an interface is its own
    own_up_to : (m : ℕ) (t : InterfaceText) → slice_get (interface_texts sorted) m ≡ Some t → (o : Place) → t.place ≡ o → (w : Owner) → w ≡ own_at o → UpTo m w
    own_up_to m t at o same w is belongs.None of = tt
    own_up_to m t at o same w is (belongs.Interface j) of = elim (own_or_other j w of) as (λ _. j ≤ first + m) [
      | inl less ↦ omega (arith, less)
      | inr (k, u, place, at_u, own) ↦
          let one : k ≡ m = apart k m u t at_u at (ap (λ (v : Owner). v.place) (own ∙ is) ∙ sym same) in
          omega (arith, place, one)
    ]
    own_up_to m t at o same w is (belongs.World v) of =
        let world = of_worlds v w of in
        no_world scopes sorted are m t at world.0 (same ∙ sym (ap (λ (z : Owner). z.place) is) ∙ world.1)

    -- what is used of another package is of an interface in front of all of its own
    other_up_to : (m : ℕ) (o : Place) (z : Name) (p : PackageNameTree) (x y : Slice) → Declares scopes o z (used (foreign p x) y) → (w : Owner) → w ≡ record { package_text = package_text p; place = in_interface x.text } → UpTo m w
    other_up_to m o z p x y d w is belongs.None of = tt
    other_up_to m o z p x y d w is (belongs.Interface j) of = elim (own_or_other j w of) as (λ _. j ≤ first + m) [
      | inl less ↦ omega (arith, less)
      | inr (k, u, place, at_u, own) ↦ absurd (other_package me files o z p x y d (ap (λ (v : Owner). v.package_text) (own ∙ is)))
    ]
    other_up_to m o z p x y d w is (belongs.World v) of =
        let world = of_worlds v w of in
        absurd (let f : in_interface x.text ≡ in_world world.0 = sym (ap (λ (v : Owner). v.place) is) ∙ world.1 in cc)

    -- ---- what is meant at the place of an interface is of this and of those in front of it

    mutual
      type_up_to : (m : ℕ) (t : InterfaceText) → slice_get (interface_texts sorted) m ≡ Some t → (o : Place) → t.place ≡ o → (e : TypeTree) (u : Tree) → Means (package_text me) scopes by_name o e u → (w : Owner) → IsIn w u → UpTo m w
      type_up_to m t at _ same _ _ (means.means_primitive o s sh p is) w h = absurd h
      type_up_to m t at _ same _ _ (means.means_name o s x u n) w h = name_up_to m t at o same x.text u n w (has_value w u h)
      type_up_to m t at _ same _ _ (means.means_list o s e u d) w h = type_up_to m t at o same e u d w h
      type_up_to m t at _ same _ _ (means.means_fixed_length_list o s e n u d) w h = type_up_to m t at o same e u d w h
      type_up_to m t at _ same _ _ (means.means_option o s e u d) w h = type_up_to m t at o same e u d w h
      type_up_to m t at _ same _ _ (means.means_tuple o s r us d) w h = parts_up_to m t at o same (parts r) us d w h
      type_up_to m t at _ same _ _ (means.means_result o s ok err u v d f) w h = elim h as (λ _. UpTo m w) [ inl a ↦ part_up_to m t at o same ok u d w a | inr b ↦ part_up_to m t at o same err v f w b ]
      type_up_to m t at _ same _ _ (means.means_own o s x u n) w h = name_up_to m t at o same x.text u n w h
      type_up_to m t at _ same _ _ (means.means_borrow o s x u n) w h = name_up_to m t at o same x.text u n w h
      type_up_to m t at _ same _ _ (means.means_future o s e u d) w h = part_up_to m t at o same e u d w h
      type_up_to m t at _ same _ _ (means.means_stream o s e u d) w h = part_up_to m t at o same e u d w h

      part_up_to : (m : ℕ) (t : InterfaceText) → slice_get (interface_texts sorted) m ≡ Some t → (o : Place) → t.place ≡ o → (e : TypeOption) (u : TreeOption) → MeansPart (package_text me) scopes by_name o e u → (w : Owner) → IsInPart w u → UpTo m w
      part_up_to m t at _ same _ _ (means.means_nothing o) w h = absurd h
      part_up_to m t at _ same _ _ (means.means_a_type o e u d) w h = type_up_to m t at o same e u d w h

      pub parts_up_to : (m : ℕ) (t : InterfaceText) → slice_get (interface_texts sorted) m ≡ Some t → (o : Place) → t.place ≡ o → (es : List TypeOption) (us : Trees) → MeansParts (package_text me) scopes by_name o es us → (w : Owner) → IsInParts w us → UpTo m w
      parts_up_to m t at _ same _ _ (means.means_none o) w h = absurd h
      parts_up_to m t at _ same _ _ (means.means_more o e es u us d more) w h = elim h as (λ _. UpTo m w) [ inl a ↦ part_up_to m t at o same e u d w a | inr b ↦ parts_up_to m t at o same es us more w b ]

      pub name_up_to : (m : ℕ) (t : InterfaceText) → slice_get (interface_texts sorted) m ≡ Some t → (o : Place) → t.place ≡ o → (x : Name) (u : Tree) → MeansName (package_text me) scopes by_name o x u → (w : Owner) → IsIn w u → UpTo m w
      name_up_to m t at _ same _ _ (means.means_alias_of_name o x s y u d n) w h = elim h as (λ _. UpTo m w) [ inl is ↦ own_up_to m t at o same w is | inr b ↦ name_up_to m t at o same y.text u n w b ]
      name_up_to m t at _ same _ _ (means.means_alias o x e u d b n) w h = elim h as (λ _. UpTo m w) [ inl is ↦ own_up_to m t at o same w is | inr b ↦ type_up_to m t at o same e u n w b ]
      name_up_to m t at _ same _ _ (means.means_record o x fs us d n) w h = elim h as (λ _. UpTo m w) [ inl is ↦ own_up_to m t at o same w is | inr b ↦ parts_up_to m t at o same (field_parts fs) us n w b ]
      name_up_to m t at _ same _ _ (means.means_flags o x ls d) w h = elim h as (λ _. UpTo m w) [ inl is ↦ own_up_to m t at o same w is | inr b ↦ absurd b ]
      name_up_to m t at _ same _ _ (means.means_enum o x ls d) w h = elim h as (λ _. UpTo m w) [ inl is ↦ own_up_to m t at o same w is | inr b ↦ absurd b ]
      name_up_to m t at _ same _ _ (means.means_variant o x cs us d n) w h = elim h as (λ _. UpTo m w) [ inl is ↦ own_up_to m t at o same w is | inr b ↦ parts_up_to m t at o same (case_parts cs) us n w b ]
      name_up_to m t at _ same _ _ (means.means_resource o x fs d) w h = own_up_to m t at o same w h
      name_up_to m t at _ same _ _ (means.means_used o x i y u d n) w h = elim h as (λ _. UpTo m w) [
        | inl is ↦ own_up_to m t at o same w is
        | inr b ↦
            let front = in_front scopes sorted are apart others interfaces_ready worlds_ready m t at o x i y same d in
            let less : front.place < m = front.less in
            λ z of. up_to_more (first + front.place) (first + m) z (omega (arith, less)) (name_up_to front.place front.text front.there (in_interface i.text) front.is y.text u n w b z of)
      ]
      name_up_to m t at _ same _ _ (means.means_foreign o x p i y d) w h = elim h as (λ _. UpTo m w) [ inl is ↦ own_up_to m t at o same w is | inr b ↦ other_up_to m o x p i y d w b ]
