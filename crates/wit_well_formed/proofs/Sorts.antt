-- What a package asks of another under one name it asks as one sort, an interface or a world (WIT, Name Resolution).
use Rattle.std.proofs.Common.{◌≡◌, ◌≢◌, ◌⊎◌, inl, inr, ℕ, ◌<◌, Bool, true, List, [], ◌∷◌, Option, Some, None, cond, refl, sym, subst, ap, ◌∙◌, arith}
use Rattle.std.proofs.lemmas.Bool.{cases_Bool, cases_lt}
use Rattle.std.proofs.lemmas.Option.{same_Some}
use Rattle.std.specs.Prelude.{slice_get, flat_map}
use Rattle.wit_words.specs.Slice.{Slice}
use Rattle.wit_items.specs.ItemTree.{AttributeTree}
use Rattle.wit_package.specs.Passed.wit_syntax-Ast.{PackageNameTree, ToplevelUseTree}
use Rattle.wit_package.specs.Passed.wit_scopes-Paths.{TargetTree, own, foreign, by_itself}
use Rattle.wit_package.specs.Passed.wit_scopes-Members.{MemberKind, MemberTree, used, defined, function, method, static, constructor}
use Rattle.wit_package.specs.Passed.wit_scopes-Scopes as scope
use Rattle.wit_package.specs.Passed.wit_scopes-Scopes.{ExternKind, WorldMemberTree, ItemScope}
use Rattle.wit_package.specs.Passed.wit_rules-Breaks.{IsKept}
use Rattle.wit_package.specs.Passed.wit_rules-Labels.{target_text}
use Rattle.wit_package.specs.Passed.wit_rules-declared-fault-PackageRule-TheVariants.{WrongKind}
use Rattle.wit_package.specs.Passed.wit_lookups-declared-asks-Asked.{Asked}
use Rattle.wit_package.specs.Passed.wit_lookups-declared-asks-Asked-TheVariants.{Interface, World}
use Rattle.wit_package.specs.Passed.wit_lookups-Lookups.{AskTree, path_asks, kind_asks, member_asks, extern_asks, world_member_asks, item_asks, asks_in, LookupsBreak, by_asks}
use Rattle.wit_package.specs.Passed.wit_arena-Tree.{PackageText, Owner}
use Rattle.wit_package.specs.Passed.wit_arena-Meaning.{Has, package_text}
use Rattle.wit_package.proofs.Passed.wit_arena-Lists.{has_none, has_here}
use Rattle.wit_package.specs.Passed.wit_foreign-Needs.{NeedTree, path_needs, kind_needs, member_needs, extern_needs, world_member_needs, item_needs, needs_in}
use Rattle.wit_package.specs.Passed.wit_foreign-Items.{place_asked, owner_asked, need_owner}
use Rattle.wit_package.proofs.Passed.wit_resolved_scopes-Readying.{either}
use Rattle.wit_package.proofs.Passed.wit_readiness-Flat.{has_one, in_flat, flat_has}
use Rattle.wit_package.proofs.Passed.wit_worlds-Keys.{foreign_text}
use Rattle.wit_package.specs.TopUses.{asks_for_world, asked_among, asked_in, top_needs, files_top_needs, with_top_uses}
use Rattle.wit_package.proofs.Among.{world_by_texts, world_by_test, as_world, as_interface}

-- ---- needs and asks

abbrev ask_of : NeedTree → AskTree
ask_of n = record { text = target_text (foreign n.«package» n.item); asked = n.asked; span = n.item.span }

flat_each : {X Y Z : Type 0} (f : X → List Y) (g : X → List Z) (h : Y → Z) (xs : List X) → ((x : X) (y : Y) → Has (f x) y → Has (g x) (h y)) → (y : Y) → Has (flat_map f xs) y → Has (flat_map g xs) (h y)
flat_each f g h xs each y has = let r = in_flat f xs y has in flat_has g xs r.0 (h y) r.1 (each r.0 y r.2)

path_there : (asked : Asked) (name : Option Slice) (attributes : List AttributeTree) (t : TargetTree) (n : NeedTree) → Has (path_needs asked name attributes t) n → Has (path_asks asked t) (ask_of n)
path_there asked name attributes (own x) n has = absurd (has_none n has)
path_there asked name attributes (foreign p i) n has =
    let one : NeedTree = record { «package» = p; item = i; asked = asked; name = name; attributes = attributes } in
    subst (λ (z : NeedTree). Has (path_asks asked (foreign p i)) (ask_of z)) (sym (has_one one n has)) (has_here (ask_of one) [])

kind_there : (attributes : List AttributeTree) (k : MemberKind) (n : NeedTree) → Has (kind_needs attributes k) n → Has (kind_asks k) (ask_of n)
kind_there attributes (used t y) n has = path_there Interface (Some y) attributes t n has
kind_there attributes (defined k) n has = absurd (has_none n has)
kind_there attributes (function f) n has = absurd (has_none n has)
kind_there attributes (method r f) n has = absurd (has_none n has)
kind_there attributes (static r f) n has = absurd (has_none n has)
kind_there attributes (constructor r ps t) n has = absurd (has_none n has)

member_there : (m : MemberTree) (n : NeedTree) → Has (member_needs m) n → Has (member_asks m) (ask_of n)
member_there m n has = kind_there m.attributes m.kind n has

extern_there : (attributes : List AttributeTree) (k : ExternKind) (n : NeedTree) → Has (extern_needs attributes k) n → Has (extern_asks k) (ask_of n)
extern_there attributes (scope.ExternKind.function f) n has = absurd (has_none n has)
extern_there attributes (scope.ExternKind.interface ms) n has = flat_each member_needs member_asks ask_of ms member_there n has
extern_there attributes (scope.item t) n has = path_there Interface None attributes t n has

world_member_there : (m : WorldMemberTree) (n : NeedTree) → Has (world_member_needs m) n → Has (world_member_asks m) (ask_of n)
world_member_there (scope.member m) n has = member_there m n has
world_member_there (scope.listed l) n has = extern_there l.attributes l.kind n has
world_member_there (scope.included i) n has = path_there World None i.attributes i.world n has

item_there : (s : ItemScope) (n : NeedTree) → Has (item_needs s) n → Has (item_asks s) (ask_of n)
item_there (scope.ItemScope.interface i) n has = flat_each member_needs member_asks ask_of i.members member_there n has
item_there (scope.world w) n has = flat_each world_member_needs world_member_asks ask_of w.members world_member_there n has

asks_there : (scopes : List ItemScope) (n : NeedTree) → Has (needs_in scopes) n → Has (asks_in scopes) (ask_of n)
asks_there scopes n has = flat_each item_needs item_asks ask_of scopes item_there n has

-- ---- by their texts

-- of two needs the same is asked, as whatever sort
pub record AskOfOne (n m : NeedTree) : Type 0 where
  pub package_is : package_text n.«package» ≡ package_text m.«package»
  pub item_is : n.item.text ≡ m.item.text

same_text : (n m : NeedTree) → AskOfOne n m → (ask_of n).text ≡ (ask_of m).text
same_text n m one =
    let p = n.«package» in
    let q = m.«package» in
    foreign_text p.namespace p.name q.namespace q.name p.version q.version n.item m.item (ap (λ (t : PackageText). t.namespace) one.package_is) (ap (λ (t : PackageText). t.name) one.package_is) (ap (λ (t : PackageText). t.version) one.package_is) one.item_is

same_sort : (a b : Asked) → (a ≡ b) ⊎ (a ≢ b)
same_sort Interface Interface = inl refl
same_sort Interface World = inr (λ e. cc)
same_sort World Interface = inr (λ e. cc)
same_sort World World = inl refl

module _ (me : PackageNameTree) (uses : List (List ToplevelUseTree)) (scopes : List ItemScope) (kept : IsKept (LookupsBreak me uses scopes)) where
  abbrev needs : List NeedTree
  needs = needs_in scopes

  -- two asks of one name that differ are a break at the later one
  no_break : (i j : ℕ) (a b : AskTree) → i < j → slice_get (asks_in scopes) i ≡ Some a → slice_get (asks_in scopes) j ≡ Some b → b.text ≡ a.text → b.asked ≢ a.asked → ⊥
  no_break i j a b less at_i at_j text differs =
      kept WrongKind b.span (by_asks (record { rule_is = refl; place = j; earlier = i; before = less; one = b; other = a; there = at_j; there_before = at_i; same = text; differs = differs; stands = refl }))

  asks_agree : (a b : AskTree) → Has (asks_in scopes) a → Has (asks_in scopes) b → a.text ≡ b.text → a.asked ≢ b.asked → ⊥
  asks_agree a b (i, at_i) (j, at_j) text differs = elim (cases_lt i j) as (λ _. ⊥) [
    | inl less ↦ no_break i j a b less at_i at_j (sym text) (λ e. differs (sym e))
    | inr past ↦ elim (cases_lt j i) as (λ _. ⊥) [
      | inl less ↦ no_break j i b a less at_j at_i text differs
      | inr not_past ↦ (let same : i ≡ j = omega (arith, past, not_past) in differs (ap (λ (z : AskTree). z.asked) (same_Some a b (sym at_i ∙ ap (slice_get (asks_in scopes)) same ∙ at_j))))
    ]
  ]

  -- needs of the scopes
  own_agree : (n m : NeedTree) → Has needs n → Has needs m → AskOfOne n m → n.asked ≡ m.asked
  own_agree n m has_n has_m one = elim (same_sort n.asked m.asked) as (λ _. n.asked ≡ m.asked) [
    | inl same ↦ same
    | inr differs ↦ absurd (asks_agree (ask_of n) (ask_of m) (asks_there scopes n has_n) (asks_there scopes m has_m) (same_text n m one) differs)
  ]

  -- a need of that name as a world
  one_of_world : (n m : NeedTree) → need_owner m ≡ owner_asked n.«package» n.item World → AskOfOne m n × (m.asked ≡ World)
  one_of_world n m is = (record { package_is = ap (λ (w : Owner). w.package_text) is; item_is = (by m.asked (ap (λ (w : Owner). w.place) is)).1 }, (by m.asked (ap (λ (w : Owner). w.place) is)).0)
    where
      by : (a : Asked) → place_asked a m.item.text ≡ place_asked World n.item.text → (a ≡ World) × (m.item.text ≡ n.item.text)
      by Interface e = absurd cc
      by World e = (refl, cc)

  own_as : (n : NeedTree) → Has needs n → n.asked ≡ asked_among n.«package» n.item needs
  own_as n has = by n.asked refl
    where
      by : (a : Asked) → n.asked ≡ a → a ≡ asked_among n.«package» n.item needs
      by World is = sym (as_world n.«package» n.item needs n has (ap (λ (a : Asked). owner_asked n.«package» n.item a) is))
      by Interface is = sym (as_interface n.«package» n.item needs (λ m has_m of. (let one = one_of_world n m of in let both : World ≡ Interface = sym one.1 ∙ own_agree m n has_m has one.0 ∙ is in absurd cc)))

  -- those of statements at the top
  path_as : (t : TargetTree) (n : NeedTree) → Has (path_needs (asked_in needs t) None [] t) n → n.asked ≡ asked_among n.«package» n.item needs
  path_as (own x) n has = absurd (has_none n has)
  path_as (foreign p i) n has =
      let one : NeedTree = record { «package» = p; item = i; asked = asked_among p i needs; name = None; attributes = [] } in
      subst (λ (z : NeedTree). z.asked ≡ asked_among z.«package» z.item needs) (sym (has_one one n has)) refl

  all_as : (n : NeedTree) → Has (with_top_uses me uses needs) n → n.asked ≡ asked_among n.«package» n.item needs
  all_as n has = elim (either (files_top_needs me needs uses) needs n has) as (λ _. n.asked ≡ asked_among n.«package» n.item needs) [
    | inl top ↦
        let us = in_flat (λ (us : List ToplevelUseTree). flat_map (top_needs me needs) us) uses n top in
        let u = in_flat (top_needs me needs) us.0 n us.2 in
        path_as (by_itself me u.0.item) n u.2
    | inr own_need ↦ own_as n own_need
  ]

  -- where the same is asked, it is asked as the same
  among_one : (n m : NeedTree) → AskOfOne n m → (ns : List NeedTree) → asked_among n.«package» n.item ns ≡ asked_among m.«package» m.item ns
  among_one n m one [] = refl
  among_one n m one (x ∷ ns) =
      let owners : owner_asked n.«package» n.item World ≡ owner_asked m.«package» m.item World = rw (one.package_is, one.item_is) refl in
      let first : asks_for_world n.«package» n.item x ≡ asks_for_world m.«package» m.item x = elim (cases_Bool (asks_for_world n.«package» n.item x)) as (λ _. asks_for_world n.«package» n.item x ≡ asks_for_world m.«package» m.item x) [
        | inl is ↦ is ∙ sym (world_by_test m.«package» m.item x (world_by_texts n.«package» n.item x is ∙ owners))
        | inr isnt ↦ elim (cases_Bool (asks_for_world m.«package» m.item x)) as (λ _. asks_for_world n.«package» n.item x ≡ asks_for_world m.«package» m.item x) [
          | inl is ↦ (let also : asks_for_world n.«package» n.item x ≡ true = world_by_test n.«package» n.item x (world_by_texts m.«package» m.item x is ∙ sym owners) in absurd cc)
          | inr neither ↦ isnt ∙ sym neither
        ]
      ] in
      ap (λ (b : Bool). cond b World (asked_among n.«package» n.item ns)) first ∙ ap (λ (a : Asked). cond (asks_for_world m.«package» m.item x) World a) (among_one n m one ns)

  pub one_sort : (n m : NeedTree) → Has (with_top_uses me uses needs) n → Has (with_top_uses me uses needs) m → AskOfOne n m → n.asked ≡ m.asked
  one_sort n m has_n has_m one = all_as n has_n ∙ among_one n m one needs ∙ sym (all_as m has_m)

  pub one_owner : (n m : NeedTree) → Has (with_top_uses me uses needs) n → Has (with_top_uses me uses needs) m → AskOfOne n m → need_owner n ≡ need_owner m
  one_owner n m has_n has_m one = rw (one.package_is, one.item_is, one_sort n m has_n has_m one) refl
