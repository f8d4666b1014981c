-- Interfaces that stand in worlds, one behind the other.
use Rattle.std.proofs.Common.{◌≡◌, ℕ, ◌+◌, ◌<◌, ◌≤◌, List, [], ◌∷◌, ◌++◌, inl, inr, length, length-append, Some, take, refl, sym, subst, ap, ◌∙◌, append_assoc, append-nil, arith}
use Rattle.std.proofs.lemmas.Option.{slice_get_within}
use Rattle.std.proofs.lemmas.List.{take_all}
use Rattle.std.specs.Prelude.{slice_get, flat_map, Vec}
use Rattle.std.specs.declared.alloc.Global.{Global}
use Rattle.wit_types.specs.declared.interface.Interface.{Interface}
use Rattle.wit_types.specs.declared.interface.TypeDef.{TypeDef}
use Rattle.wit_types.specs.declared.interface.TypeOwner.TheVariants as belongs
use Rattle.wit_scopes.specs.Scopes.{ListedTree, WorldMemberTree, WorldScope}
use Rattle.wit_scopes.specs.declared.members.Member.{Member}
use Rattle.wit_scopes.specs.declared.worlds.ExternKind.{ExternKind as Extern}
use Rattle.wit_scopes.specs.declared.worlds.ExternKind.TheVariants as externs
use Rattle.wit_scopes.specs.declared.worlds.Listed.{Listed}
use Rattle.wit_scopes.specs.declared.worlds.WorldMember.{WorldMember}
use Rattle.wit_scopes.specs.declared.worlds.WorldMember.TheVariants as world_members
use Rattle.wit_scopes.specs.View as scope_view
use Rattle.wit_rules.proofs.Breaking.{one_breaks}
use Rattle.wit_rules.proofs.Places.{taken}
use Rattle.wit_scopes.proofs.Lists.{flat_map-push}
use Rattle.wit_rules.specs.Breaks.{IsKept, IsFaultOf}
use Rattle.wit_rules.specs.declared.fault.PackageFault.{PackageFault}
use Rattle.wit_arena.specs.Tree.{Name}
use Rattle.wit_arena.specs.Table.{Entries}
use Rattle.wit_arena.specs.Meaning.{Has}
use Rattle.wit_arena.proofs.Lists.{has_none, has_here, has_cases}
use Rattle.wit_resolved_scopes.specs.Passed.wit_package_types-Known.{KnownTypes}
use Rattle.wit_resolved_scopes.specs.InArena.{Context, IsBuilt, IsIdOf}
use Rattle.wit_resolved_scopes.specs.Texts.{InterfaceText, listed_text, extern_texts, member_texts, labelled_texts}
use Rattle.wit_resolved_scopes.proofs.Listing.{none_new}
use Rattle.wit_resolved_scopes.proofs.Placing.{resolved_scopes_are_in}
use Rattle.wit_interfaces.specs.Interfaces.{IsInterfaceIn, AreInterfacesIn}
use Rattle.wit_interfaces.specs.Adding.{MembersBreak, MayBring, IsReadyIn, MakesInterface}
use Rattle.wit_interfaces.specs.Labelled.{TextsBreak, MayAddTexts, AddsTexts, AddsMore}
use Rattle.wit_interfaces.specs.Listed.{IsListed}
use Rattle.wit_interfaces.proofs.Listing.{listed_through, interface_listed}
use Rattle.wit_interfaces.proofs.Growing.{grows_for_self, grows_for_through, interfaces_grown, no_interfaces, interfaces_more}
use Rattle.wit_interfaces.proofs.Behind.{get_either, get_middle, given_around, each_behind, kept_behind, middle_breaks}

-- ---- in an arena

pub interfaces_behind : (c : Context) (a : List TypeDef) (first : ℕ) (ts us : List InterfaceText) (ds es : List Interface) → AreInterfacesIn c a first ts ds → AreInterfacesIn c a (first + length ds) us es → AreInterfacesIn c a first (ts ++ us) (ds ++ es)
interfaces_behind c a first ts us ds es are also = record {
  so_many = length-append ds es ∙ (let x : length ds ≡ length ts = are.so_many in let y : length es ≡ length us = also.so_many in omega arith) ∙ sym (length-append ts us);
  each = each;
}
  where
    each : (n : ℕ) (t : InterfaceText) (d : Interface) → slice_get (ts ++ us) n ≡ Some t → slice_get (ds ++ es) n ≡ Some d → IsInterfaceIn c a t (first + n) d
    each n t d at_t at_d =
        elim (get_either ts us n t at_t) as (λ _. IsInterfaceIn c a t (first + n) d) [
          | inl left_t ↦
              elim (get_either ds es n d at_d) as (λ _. IsInterfaceIn c a t (first + n) d) [
                | inl left_d ↦ are.each n t d left_t left_d
                | inr right_d ↦ absurd (let less : n < length ts = slice_get_within ts n t left_t in let is : n ≡ length ds + right_d.0 = right_d.1 in omega (arith, are.so_many))
              ]
          | inr right_t ↦
              elim (get_either ds es n d at_d) as (λ _. IsInterfaceIn c a t (first + n) d) [
                | inl left_d ↦ absurd (let less : n < length ds = slice_get_within ds n d left_d in let is : n ≡ length ts + right_t.0 = right_t.1 in omega (arith, are.so_many))
                | inr right_d ↦
                    (let of_t : n ≡ length ts + right_t.0 = right_t.1 in
                    let of_d : n ≡ length ds + right_d.0 = right_d.1 in
                    let one : right_d.0 ≡ right_t.0 = omega (arith, are.so_many) in
                    let place : (first + length ds) + right_t.0 ≡ first + n = omega (arith, are.so_many) in
                    subst (λ (m : ℕ). IsInterfaceIn c a t m d) place (also.each right_t.0 t d right_t.2 (subst (λ (m : ℕ). slice_get es m ≡ Some d) one right_d.2)))
              ]
        ]

module _ (c : Context) (k : KnownTypes) where
  pub adds_none : (a : List TypeDef) (old : List Interface) → IsBuilt c k a → AddsTexts c k a old [] a old []
  adds_none a old built = record { grows = grows_for_self c k a built; built = built; more = []; behind = sym (append-nil old); are_in = no_interfaces c a (length old); listed = none_new (IsListed c (record { interfaces = []; worlds = [] }) a old []) a; ids_are = tt }

  pub adds_behind : (a b d : List TypeDef) (old new new2 : List Interface) (ts us : List InterfaceText) (ids more : List ℕ) → AddsTexts c k a old ts b new ids → AddsTexts c k b new us d new2 more → AddsTexts c k a old (ts ++ us) d new2 (ids ++ more)
  adds_behind a b d old new new2 ts us ids more x y =
      let at : length new ≡ length old + length x.more = ap length x.behind ∙ length-append old x.more in
      record {
        grows = grows_for_through c a b d x.grows y.grows;
        built = y.built;
        more = x.more ++ y.more;
        behind = y.behind ∙ ap (λ (ds : List Interface). ds ++ y.more) x.behind ∙ append_assoc old x.more y.more;
        are_in = interfaces_behind c d (length old) ts us x.more y.more (interfaces_grown c b d y.grows (length old) ts x.more x.are_in) (subst (λ (m : ℕ). AreInterfacesIn c d m us y.more) at y.are_in);
        listed = listed_through c new new2 y.more y.behind [] [] [] refl (record { interfaces = ts; worlds = [] }) (record { interfaces = us; worlds = [] }) a b d y.grows x.listed y.listed;
        ids_are = each_behind (IsIdOf c) ts us ids more x.ids_are y.ids_are;
      }

  -- those of no text, behind ids that are there
  pub adds_no_more : (a : List TypeDef) (old : List Interface) (ids : List ℕ) (ts : List InterfaceText) → ts ≡ [] → MayAddTexts c k a (length old) ts → AddsMore c k a old ids ts a old ids
  adds_no_more a old ids ts none may =
      subst (λ (us : List InterfaceText). AddsMore c k a old ids us a old ids) (sym none) (record { theirs = []; ids_are = sym (append-nil ids); adds = adds_none a old may.built })

  -- ---- one

  module _ (a : List TypeDef) (old : List Interface) (t : InterfaceText) (may : MayAddTexts c k a (length old) (t ∷ [])) where
    own_place : IsIdOf c t (length old)
    own_place = let first : length old + 0 ≡ length old = omega arith in subst (IsIdOf c t) first (may.owners 0 t refl)

    pub may_bring_one : MayBring c t.place (belongs.Interface (length old)) k a t.members
    may_bring_one = record { of_scope = record { owner = own_place; declared = may.declared t (has_here t []) }; built = may.built }

    pub adds_one : (b : List TypeDef) (table : Entries) (made : Interface) → MakesInterface k a t (length old) b table made → AddsTexts c k a old (t ∷ []) b (old ++ made ∷ []) (length old ∷ [])
    adds_one b table made makes =
        let law = resolved_scopes_are_in c t.place (belongs.Interface (length old)) k a b t.members table makes.functions may_bring_one.of_scope may_bring_one.built makes.resolves in
        let first : length old + 0 ≡ length old = omega arith in
        record {
          grows = law.0;
          built = law.1;
          more = made ∷ [];
          behind = refl;
          are_in =
              interfaces_more c b (length old) [] [] t made (no_interfaces c b (length old))
              (subst (λ (m : ℕ). IsInterfaceIn c b t m made) (sym first) (record { table = table; functions = makes.functions; is = makes.is; scope = law.2 }));
          listed = interface_listed c k a b t old (old ++ made ∷ []) table made may_bring_one makes refl;
          ids_are = (own_place, tt);
        }

    -- and its id behind those that are there
    pub adds_one_more : (b : List TypeDef) (table : Entries) (made : Interface) → MakesInterface k a t (length old) b table made → (new : List Interface) → new ≡ old ++ made ∷ [] → (ids ids2 : List ℕ) → ids2 ≡ ids ++ length old ∷ []
        → AddsMore c k a old ids (t ∷ []) b new ids2
    adds_one_more b table made makes new behind ids ids2 more =
        record { theirs = length old ∷ []; ids_are = more; adds = subst (λ (ds : List Interface). AddsTexts c k a old (t ∷ []) b ds (length old ∷ [])) (sym behind) (adds_one b table made makes) }

-- a text by itself breaks what its members do
pub one_kept : (c : Context) (t : InterfaceText) → IsKept (MembersBreak c t.place t.members) → IsKept (TextsBreak c (t ∷ []))
one_kept c t kept rule at b =
    elim (has_cases t [] b.one (b.place, b.there)) as (λ _. ⊥) [
      | inl same ↦ kept rule at (subst (λ (u : InterfaceText). MembersBreak c u.place u.members rule at) same b.breaks)
      | inr has ↦ has_none b.one has
    ]

pub one_text_breaks : (c : Context) (t : InterfaceText) (fault : PackageFault) → IsFaultOf (MembersBreak c t.place t.members) fault → IsFaultOf (TextsBreak c (t ∷ [])) fault
one_text_breaks c t = one_breaks (λ u. MembersBreak c u.place u.members) (t ∷ []) 0 t refl

pub none_kept : (c : Context) (ts : List InterfaceText) → ts ≡ [] → IsKept (TextsBreak c ts)
none_kept c ts none rule at b = has_none b.one (b.place, subst (λ (us : List InterfaceText). slice_get us b.place ≡ Some b.one) none b.there)

-- no text has no id
pub no_text_more : (ids : List ℕ) (ts : List InterfaceText) → ts ≡ [] → length ids ≡ length ids + length ts
no_text_more ids ts none = let e : length ts ≡ 0 = ap length none in omega (arith, e)

-- ---- members of worlds

-- those that aren't imports or exports have none
pub unlisted_texts : (w : Name) (m : WorldMember) → ((l : Listed) → m ≡ world_members.Listed l → ⊥) → member_texts w (scope_view.world_member m) ≡ []
unlisted_texts w (world_members.Member m) not = refl
unlisted_texts w (world_members.Listed l) not = absurd (not l refl)
unlisted_texts w (world_members.Included i) not = refl

-- nor have those that aren't interfaces
pub other_texts : (w : Name) (l : ListedTree) (e : Extern) → ((ms : Vec Member Global) → e ≡ externs.Interface ms → ⊥) → extern_texts w l (scope_view.extern_kind e) ≡ []
other_texts w l (externs.Function f) not = refl
other_texts w l (externs.Interface ms) not = absurd (not ms refl)
other_texts w l (externs.Item t) not = refl

-- an import or export of an interface has one
pub interface_texts : (w : Name) (m : WorldMember) (l : Listed) (ms : Vec Member Global) (ns : List Member) → m ≡ world_members.Listed l → l.kind ≡ externs.Interface ms → ns ≡ ms.items
    → member_texts w (scope_view.world_member m) ≡ listed_text w (scope_view.listed l) (scope_view.members ns) ∷ []
interface_texts w m l ms ns of kind items =
    ap (λ (x : WorldMember). member_texts w (scope_view.world_member x)) of
    ∙ ap (λ (e : Extern). extern_texts w (scope_view.listed l) (scope_view.extern_kind e)) kind
    ∙ ap (λ (xs : List Member). listed_text w (scope_view.listed l) (scope_view.members xs) ∷ []) (sym items)

-- ---- as far as they are brought in

module _ (k0 : KnownTypes) (a0 : List TypeDef) (old : List Interface) (all : List InterfaceText) where
  pub record TextsSoFar (ts : List InterfaceText) (a : List TypeDef) (new : List Interface) (ids : List ℕ) : Type 0 where
    pub adds : (c : Context) → MayAddTexts c k0 a0 (length old) all → AddsTexts c k0 a0 old ts a new ids
    pub kept : (c : Context) → MayAddTexts c k0 a0 (length old) all → IsKept (TextsBreak c ts)

  pub no_texts_so_far : TextsSoFar [] a0 old []
  no_texts_so_far = record { adds = λ c may. adds_none c k0 a0 old may.built; kept = λ c may. none_kept c [] refl }

  module _ (ts us rest : List InterfaceText) (are : all ≡ ts ++ (us ++ rest)) (a : List TypeDef) (new : List Interface) (ids : List ℕ) (so_far : TextsSoFar ts a new ids) where
    may_add : (c : Context) → MayAddTexts c k0 a0 (length old) all → MayAddTexts c k0 a (length new) us
    may_add c may =
        let adds = so_far.adds c may in
        let so_many : length new ≡ length old + length ts = ap length adds.behind ∙ length-append old adds.more ∙ ap (λ (n : ℕ). length old + n) adds.are_in.so_many in
        record {
          built = adds.built;
          declared = λ t has m of. may.declared t (length ts + has.0, get_middle all ts us rest are has.0 t has.1) m of;
          owners = λ n t at. (let place : length old + (length ts + n) ≡ length new + n = omega arith in subst (IsIdOf c t) place (may.owners (length ts + n) t (get_middle all ts us rest are n t at)));
        }

    pub may_add_next : (k : KnownTypes) → k ≡ k0 → (c : Context) → MayAddTexts c k0 a0 (length old) all → MayAddTexts c k a (length new) us
    may_add_next k same c may = subst (λ (z : KnownTypes). MayAddTexts c z a (length new) us) (sym same) (may_add c may)

    pub next_texts_so_far : (k : KnownTypes) → k ≡ k0 → (b : List TypeDef) (new2 : List Interface) (ids2 : List ℕ) → ((c : Context) → MayAddTexts c k a (length new) us → AddsMore c k a new ids us b new2 ids2)
        → ((c : Context) → MayAddTexts c k a (length new) us → IsKept (TextsBreak c us)) → TextsSoFar (ts ++ us) b new2 ids2
    next_texts_so_far k same b new2 ids2 adds kept = record {
      adds = λ c may.
          (let more : AddsMore c k0 a new ids us b new2 ids2 = subst (λ (z : KnownTypes). AddsMore c z a new ids us b new2 ids2) same (adds c (may_add_next k same c may)) in
          subst (λ (js : List ℕ). AddsTexts c k0 a0 old (ts ++ us) b new2 js) (sym more.ids_are) (adds_behind c k0 a0 a b old new new2 ts us ids more.theirs (so_far.adds c may) more.adds));
      kept = λ c may. kept_behind (λ t. MembersBreak c t.place t.members) ts us (so_far.kept c may) (kept c (may_add_next k same c may));
    }

-- ---- in a world

-- the texts of the first members
abbrev pub first_texts : WorldScope → ℕ → List InterfaceText
first_texts w n = flat_map (member_texts w.name.text) (take n w.members)

pub all_texts : (w : WorldScope) (n : ℕ) → length w.members ≤ n → first_texts w n ≡ labelled_texts w
all_texts w n past = ap (flat_map (member_texts w.name.text)) (take_all n w.members past)

module _ (w : WorldScope) (n : ℕ) (m : WorldMemberTree) (there : slice_get w.members n ≡ Some m) where
  around : (rest : List InterfaceText) × (labelled_texts w ≡ first_texts w n ++ (member_texts w.name.text m ++ rest))
  around = given_around (member_texts w.name.text) w.members n m there

  pub next_texts : first_texts w (n + 1) ≡ first_texts w n ++ member_texts w.name.text m
  next_texts = ap (flat_map (member_texts w.name.text)) (taken w.members n m there) ∙ flat_map-push (member_texts w.name.text) (take n w.members) m

  pub member_breaks : (c : Context) (fault : PackageFault) → IsFaultOf (TextsBreak c (member_texts w.name.text m)) fault → IsFaultOf (TextsBreak c (labelled_texts w)) fault
  member_breaks c = middle_breaks (λ t. MembersBreak c t.place t.members) (labelled_texts w) (first_texts w n) (member_texts w.name.text m) around.0 around.1

  module _ (k0 k : KnownTypes) (same : k ≡ k0) where
    pub member_ready : ((t : InterfaceText) → Has (labelled_texts w) t → IsReadyIn k0 t) → (x : Name) × ((t : InterfaceText) → Has (member_texts x m) t → IsReadyIn k t)
    member_ready ready = (
      w.name.text,
      λ t has. subst (λ (z : KnownTypes). IsReadyIn z t) (sym same) (ready t (length (first_texts w n) + has.0, get_middle (labelled_texts w) (first_texts w n) (member_texts w.name.text m) around.0 around.1 has.0 t has.1)),
    )

    module _ (a0 : List TypeDef) (old : List Interface) (a : List TypeDef) (new : List Interface) (ids : List ℕ) (so_far : TextsSoFar k0 a0 old (labelled_texts w) (first_texts w n) a new ids) where
      pub may_add_member : (c : Context) → MayAddTexts c k0 a0 (length old) (labelled_texts w) → MayAddTexts c k a (length new) (member_texts w.name.text m)
      may_add_member = may_add_next k0 a0 old (labelled_texts w) (first_texts w n) (member_texts w.name.text m) around.0 around.1 a new ids so_far k same

      pub next_member : (b : List TypeDef) (new2 : List Interface) (ids2 : List ℕ) → ((c : Context) → MayAddTexts c k a (length new) (member_texts w.name.text m) → AddsMore c k a new ids (member_texts w.name.text m) b new2 ids2)
          → ((c : Context) → MayAddTexts c k a (length new) (member_texts w.name.text m) → IsKept (TextsBreak c (member_texts w.name.text m))) → TextsSoFar k0 a0 old (labelled_texts w) (first_texts w (n + 1)) b new2 ids2
      next_member b new2 ids2 adds kept =
          subst (λ (ts : List InterfaceText). TextsSoFar k0 a0 old (labelled_texts w) ts b new2 ids2) (sym next_texts)
          (next_texts_so_far k0 a0 old (labelled_texts w) (first_texts w n) (member_texts w.name.text m) around.0 around.1 a new ids so_far k same b new2 ids2 adds kept)
