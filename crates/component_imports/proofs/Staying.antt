-- What is imported stays where more is.
use Rattle.std.proofs.Common.{◌≡◌, ℕ, List, [], ◌∷◌, ◌++◌, get_or, Option, Some, None, true, false, refl, sym, ap, subst, ◌∙◌, inl, inr}
use Rattle.std.specs.Prelude.{slice_get, string_bytes}
use Rattle.std.specs.List.{AllByRecursion as Each}
use Rattle.std.proofs.lemmas.List.{append-nil}
use Rattle.wit_order.specs.Order.{Has}
use Rattle.wit_types.specs.declared.kind.«Type».{«Type» as Ref}
use Rattle.wit_types.specs.declared.function.Param.{Param}
use Rattle.wit_types.specs.declared.function.Function.{Function}
use Rattle.wit_types.specs.declared.interface.TypeDef.{TypeDef}
use Rattle.type_sinks.specs.Passed.type_meaning-Words.{Site, imported}
use Rattle.type_sinks.specs.Passed.type_meaning-Items.{Item, Items, an_instance, or_nothing, item_at, from_import, a_function}
use Rattle.type_sinks.specs.Passed.type_writing-Writing.{Begins, name_of, names_of_types, written}
use Rattle.type_sinks.proofs.Passed.type_writing-Standing.{begins_here, begins_on, get_begin}
use Rattle.type_sinks.specs.declared.root.Root.{Root}
use Rattle.type_sinks.specs.Root.{root_label, IsHome}
use Rattle.type_sinks.specs.Views.{root_scope, root_names, interface_names, RootIsGood, IsInstanceWith, InstanceHasFunction}
use Rattle.type_sinks.proofs.Rooted.{home_keeps}
use Rattle.type_sinks.proofs.Rooted.{instance_there}
use Rattle.component_imports.specs.Functions.{function_names}
use Rattle.type_sinks.specs.Views.{setting_over}
use Rattle.component_imports.specs.Interface.{interface_name, IsInterfaceImported}
use Rattle.wit_reach.specs.Paths.{AreEnds}
use Rattle.wit_reach.specs.Made.{IsMadeOfWithin}
use Rattle.wit_types.specs.declared.interface.TypeOwner.TheVariants as belongs
use Rattle.component_imports.specs.Interfaces.{ids_of, is_needed, name_if, owned_name, owned_names, HasInterface, Stays, IsImportedIfNeeded}
use Rattle.type_sinks.proofs.Keeping.{each_keeps}
use Rattle.component_imports.proofs.Imported.{named_more}

pub stays_here : (r : Root) (types : List TypeDef) → RootIsGood r types → Stays r r types
stays_here r types g = record {
  interfaces = refl;
  types_stay = begins_here (root_scope r).types;
  functions_stay = refl;
  instances_stay = begins_here (root_scope r).instances;
  known = refl;
  homes_stay = λ id h. h;
  good = g;
}

pub stays_on : (a b c : Root) (types : List TypeDef) → Stays a b types → Stays b c types → Stays a c types
stays_on a b c types s t = record {
  interfaces = t.interfaces ∙ s.interfaces;
  types_stay = begins_on (root_scope a).types (root_scope b).types (root_scope c).types s.types_stay t.types_stay;
  functions_stay = t.functions_stay ∙ s.functions_stay;
  instances_stay = begins_on (root_scope a).instances (root_scope b).instances (root_scope c).instances s.instances_stay t.instances_stay;
  known = t.known ∙ s.known;
  homes_stay = λ id h. t.homes_stay id (s.homes_stay id h);
  good = t.good;
}

pub stays_of : (old new : Root) (types : List TypeDef) (interface : ℕ) (ids : List ℕ) (functions : List Function) → IsInterfaceImported old new types interface ids functions → Stays old new types
stays_of old new types interface ids functions h = record {
  interfaces = h.interfaces;
  types_stay = h.types_stay;
  functions_stay = h.functions_stay;
  instances_stay = h.instances_stay;
  known = h.known;
  homes_stay = h.homes_stay;
  good = h.good;
}

-- ---- instances

item_stays : (xs ys : List Item) (k : ℕ) (s : Site) (is : Items) → Begins xs ys → item_at xs k ≡ an_instance s is → item_at ys k ≡ an_instance s is
item_stays xs ys k s is b h = ap or_nothing (ap (λ l. slice_get l k) b.1 ∙ get_begin xs b.0 k (an_instance s is) (instance_there (slice_get xs k) s is h))

instance_stays : (old new : Root) (types : List TypeDef) (k : ℕ) (s : Site) (names : List (List ℕ)) → Stays old new types → IsInstanceWith old k s names → IsInstanceWith new k s names
instance_stays old new types k s names t h = record {
  items = h.items;
  is = item_stays (root_scope old).instances (root_scope new).instances k s h.items t.instances_stay h.is;
  named = h.named;
}

function_stays : (old new : Root) (types : List TypeDef) (k : ℕ) (s : Site) (n : List ℕ) (params : List Param) (result : Option Ref) → Stays old new types → InstanceHasFunction old k s types n params result → InstanceHasFunction new k s types n params result
function_stays old new types k s n params result t h = record {
  items = h.items;
  is = item_stays (root_scope old).instances (root_scope new).instances k s h.items t.instances_stay h.is;
  tree = h.tree;
  unfolds = h.unfolds;
  has = h.has ∙ ap (λ m. a_function (from_import (record { site = s; name = n })) (written (root_label m) h.tree)) (sym t.interfaces);
}

home_stays : (old new : Root) (types : List TypeDef) (id k : ℕ) → Stays old new types → IsHome (interface_names old) types (root_scope old).instances id k → IsHome (interface_names new) types (root_scope new).instances id k
home_stays old new types id k t h = subst (λ n. IsHome n types (root_scope new).instances id k) (sym t.interfaces) (home_keeps (interface_names old) types (root_scope old).instances (root_scope new).instances id k t.instances_stay h)

-- an interface that is imported stays so
pub interface_stays : (old new : Root) (types : List TypeDef) (i : ℕ) (ids : List ℕ) (fs : List Function) → Stays old new types → HasInterface old types i ids fs → HasInterface new types i ids fs
interface_stays old new types i ids fs t h =
    let k = h.instance in
    let At : List (List ℕ) → Type 0 = λ n. IsInstanceWith new k (imported (get_or n i [])) (owned_names i types ids ++ function_names fs) in
    let Has : List (List ℕ) → Function → Type 0 = λ n f. InstanceHasFunction new k (imported (get_or n i [])) types (string_bytes f.name) f.params.items f.result in
    record {
      instance = k;
      items = subst At (sym t.interfaces) (instance_stays old new types k (imported (interface_name old i)) (owned_names i types ids ++ function_names fs) t h.items);
      homes = named_more (setting_over new i) types (λ id. IsHome (interface_names old) types (root_scope old).instances id k) (λ id. IsHome (interface_names new) types (root_scope new).instances id k) ids (λ id. home_stays old new types id k t) h.homes;
      has = each_keeps _ _ fs (λ f g. subst (λ n. Has n f) (sym t.interfaces) (function_stays old new types k (imported (interface_name old i)) (string_bytes f.name) f.params.items f.result t g)) h.has;
    }

pub same_instance : (old new : Root) (types : List TypeDef) (i : ℕ) (ids : List ℕ) (fs : List Function) (t : Stays old new types) (h : HasInterface old types i ids fs) → (interface_stays old new types i ids fs t h).instance ≡ h.instance
unfolding interface_stays
same_instance old new types i ids fs t h = refl

-- ---- the interface's own of what is written

owned_one : (r : Root) (own : ℕ) (x : Option TypeDef) → name_of (setting_over r own) x ≡ owned_name own x
owned_one r own None = refl
owned_one r own (Some d) = refl

pub owned_are : (r : Root) (own : ℕ) (types : List TypeDef) (ids : List ℕ) → names_of_types (setting_over r own) types ids ≡ owned_names own types ids
owned_are r own types [] = refl
owned_are r own types (id ∷ ids) = (λ i. owned_one r own (slice_get types id) i ++ owned_are r own types ids i)

-- ---- each of these

pub each_of : (Q : ℕ → Type 0) (xs : List ℕ) → ((x : ℕ) → Has xs x → Q x) → Each Q xs
each_of Q [] h = tt
each_of Q (x ∷ xs) h = (h x (inl refl), each_of Q xs (λ y k. h y (inr k)))

pub each_in : (Q : ℕ → Type 0) (xs : List ℕ) (x : ℕ) → Each Q xs → Has xs x → Q x
each_in Q [] x e h = absurd h
each_in Q (y ∷ xs) x e h = elim h as (λ _. Q x) [ inl same ↦ subst Q (sym same) e.0 | inr k ↦ each_in Q xs x e.1 k ]

-- ---- one interface

pub not_imported : (r : Root) (types : List TypeDef) (own : ℕ) (needed : List ℕ) (fs : List Function) → RootIsGood r types → is_needed needed fs ≡ false → IsImportedIfNeeded r r types own needed fs
not_imported r types own needed fs g none = record {
  stays = stays_here r types g;
  names = sym (ap (λ b. root_names r ++ name_if b (interface_name r own)) none ∙ append-nil (root_names r));
  homes_only = λ id k h. inl h;
  imported = λ e. (let k : true ≡ false = sym e ∙ none in absurd cc);
}

pub one_imported : (old new : Root) (types : List TypeDef) (own : ℕ) (needed : List ℕ) (fs : List Function) (ids same : List ℕ) → same ≡ ids
    → AreEnds (IsMadeOfWithin (belongs.Interface own) types) (Has (needed ++ ids_of fs)) ids → IsInterfaceImported old new types own same fs → is_needed needed fs ≡ true → IsImportedIfNeeded old new types own needed fs
one_imported old new types own needed fs ids same e ends h there = record {
  stays = stays_of old new types own same fs h;
  names = h.names ∙ ap (λ b. root_names old ++ name_if b (interface_name old own)) (sym there);
  homes_only = h.homes_only;
  imported = λ _. record { ids = ids; are = ends; imported = subst (λ l. IsInterfaceImported old new types own l fs) e h };
}
