-- Types of an interface, and functions of it that are linked, by the entries under which they stand there.
use Rattle.std.proofs.Common.{◌≡◌, ℕ, ◌+◌, List, Some, String, true, sym, subst, ap, ◌∙◌, arith, length}
use Rattle.std.proofs.lemmas.Bool.{eqb-true}
use Rattle.std.proofs.lemmas.Option.{same_Some}
use Rattle.std.specs.Prelude.{slice_get, string_bytes}
use Rattle.std.specs.declared.alloc.Global.{Global}
use Rattle.wit_order.specs.Order.{Has}
use Rattle.wit_types.specs.declared.function.Function.{Function}
use Rattle.wit_types.specs.declared.interface.Interface.{Interface}
use Rattle.wit_types.specs.declared.interface.TypeDef.{TypeDef}
use Rattle.wit_types.specs.declared.interface.TypeOwner.{TypeOwner}
use Rattle.wit_types.specs.declared.interface.TypeOwner.TheVariants as belongs
use Rattle.wit_reach.specs.Deps.{interface_of}
use Rattle.wit_reach.specs.Holding.{IsMadeUpTo, AreListed, HoldTheirTypes}
use Rattle.wit_reach.specs.Ids.{function_ids}
use Rattle.wit_reach.specs.Lists.{AreOwnersThere}
use Rattle.wit_reach.proofs.Holding.{got, has_mapped, has_flat, flat_has}
use Rattle.wit_placed.specs.Naming.{HaveNamesApart, AreNamesApart as AreEntriesApart}
use Rattle.wit_placed.proofs.Members.{has_at, has_get}
use Rattle.component_imports.specs.Passed.type_sinks-Inside.{is_of}
use Rattle.component_imports.specs.Distinct.{IsNamedIn}
use Rattle.linked_interfaces.specs.Linked.{functions_of, AreLinkedOf, LinkedNamesAreApart, LinkedFunctionsAreUpTo}

-- ---- entries

-- entries of one name are one
one_entry : {V : Type 0} (es : List (String Global × V)) → AreEntriesApart es → (e f : String Global × V) → Has es e → Has es f → string_bytes e.0 ≡ string_bytes f.0 → e ≡ f
one_entry es apart e f has_e has_f same =
    let a = has_at es e has_e in
    let b = has_at es f has_f in
    same_Some e f (sym a.1 ∙ ap (slice_get es) (apart a.0 b.0 e f a.1 b.1 same) ∙ b.1)

owner_of : (own : ℕ) (o : TypeOwner) → is_of own o ≡ true → interface_of o ≡ Some own
owner_of own (belongs.World w) e = absurd cc
owner_of own (belongs.Interface i) e = ap (λ (n : ℕ). Some n) (eqb-true i own e)
owner_of own belongs.None e = absurd cc

-- ---- names

-- a type with a name stands under it in its interface
record IsEntryOf (interfaces : List Interface) (own i : ℕ) (name : List ℕ) : Type 0 where
  interface : Interface
  there : slice_get interfaces own ≡ Some interface
  entry : String Global × ℕ
  has : Has interface.types.entries entry
  id : entry.1 ≡ i
  is : string_bytes entry.0 ≡ name

module _ (types : List TypeDef) (interfaces : List Interface) (linked : List (List Function)) (there : AreOwnersThere (length interfaces) types) (hold : HoldTheirTypes 0 types interfaces) (listed : AreListed 0 types interfaces)
    (names : HaveNamesApart interfaces) (are : AreLinkedOf interfaces linked)
  where
    entry_of : (own i : ℕ) (name : List ℕ) → IsNamedIn types own i name → IsEntryOf interfaces own i name
    entry_of own i name n =
        let of : interface_of n.type_def.owner ≡ Some own = owner_of own n.type_def.owner n.its in
        let d = got interfaces own (there i own n.type_def n.there of) in
        let has = listed i own d.0 d.1 (n.type_def, n.there, of ∙ ap (λ (m : ℕ). Some m) (let e : own ≡ 0 + own = omega arith in e)) in
        let e = has_mapped (λ (z : String Global × ℕ). z.1) d.0.types.entries i has in
        let under = hold.theirs own d.0 e.0 d.1 e.1 in
        let same : under.type_def ≡ n.type_def = same_Some under.type_def n.type_def (sym under.there ∙ ap (slice_get types) e.2 ∙ n.there) in
        let called : under.own_name ≡ n.own_name = same_Some under.own_name n.own_name (sym under.named ∙ ap (λ (x : TypeDef). x.name) same ∙ n.named) in
        record { interface = d.0; there = d.1; entry = e.0; has = e.1; id = e.2; is = sym under.is ∙ ap string_bytes called ∙ n.is }

    one_interface : (own : ℕ) (d e : Interface) → slice_get interfaces own ≡ Some d → slice_get interfaces own ≡ Some e → d ≡ e
    one_interface own d e at_d at_e = same_Some d e (sym at_d ∙ at_e)

    types_apart : (own i j : ℕ) (name : List ℕ) → IsNamedIn types own i name → IsNamedIn types own j name → i ≡ j
    types_apart own i j name a b =
        let x = entry_of own i name a in
        let y = entry_of own j name b in
        let here : Has x.interface.types.entries y.entry = subst (λ (d : Interface). Has d.types.entries y.entry) (one_interface own y.interface x.interface y.there x.there) y.has in
        let one : x.entry ≡ y.entry = one_entry x.interface.types.entries (names x.interface (has_get interfaces own x.interface x.there)).types x.entry y.entry x.has here (x.is ∙ sym y.is) in
        sym x.id ∙ ap (λ (e : String Global × ℕ). e.1) one ∙ y.id

    functions_apart : (own : ℕ) (fs : List Function) (i j : ℕ) (f g : Function) → slice_get linked own ≡ Some fs → slice_get fs i ≡ Some f → slice_get fs j ≡ Some g → string_bytes f.name ≡ string_bytes g.name → i ≡ j
    functions_apart own fs i j f g at at_i at_j same =
        let a = are.own own fs f at (has_get fs i f at_i) in
        let b = are.own own fs g at (has_get fs j g at_j) in
        let there_g : Has (functions_of a.0) g = subst (λ (d : Interface). Has (functions_of d) g) (one_interface own b.0 a.0 b.1 a.1) b.2 in
        let x = has_mapped (λ (e : String Global × Function). e.1) a.0.functions.entries f a.2 in
        let y = has_mapped (λ (e : String Global × Function). e.1) a.0.functions.entries g there_g in
        let apart = names a.0 (has_get interfaces own a.0 a.1) in
        let called : string_bytes x.0.0 ≡ string_bytes y.0.0 = sym (apart.named x.0 x.1) ∙ ap (λ (h : Function). string_bytes h.name) x.2 ∙ same ∙ ap (λ (h : Function). string_bytes h.name) (sym y.2) ∙ apart.named y.0 y.1 in
        let one : f ≡ g = sym x.2 ∙ ap (λ (e : String Global × Function). e.1) (one_entry a.0.functions.entries apart.functions x.0 y.0 x.1 y.1 called) ∙ y.2 in
        are.once own fs i j g at (at_i ∙ ap (λ (h : Function). Some h) one) at_j

    between : (own : ℕ) (fs : List Function) (i : ℕ) (f : Function) → slice_get linked own ≡ Some fs → Has fs f → IsNamedIn types own i (string_bytes f.name) → ⊥
    between own fs i f at has n =
        let x = entry_of own i (string_bytes f.name) n in
        let a = are.own own fs f at has in
        let there_f : Has (functions_of x.interface) f = subst (λ (d : Interface). Has (functions_of d) f) (one_interface own a.0 x.interface a.1 x.there) a.2 in
        let y = has_mapped (λ (e : String Global × Function). e.1) x.interface.functions.entries f there_f in
        let apart = names x.interface (has_get interfaces own x.interface x.there) in
        apart.between x.entry y.0 x.has y.1 (x.is ∙ ap (λ (h : Function). string_bytes h.name) (sym y.2) ∙ apart.named y.0 y.1)

pub names_apart : LinkedNamesAreApart
names_apart types interfaces linked there hold listed names are = record {
  types_apart = types_apart types interfaces linked there hold listed names are;
  functions_apart = functions_apart types interfaces linked there hold listed names are;
  between = between types interfaces linked there hold listed names are;
}

-- ---- what linked functions are made of

pub functions_up_to : LinkedFunctionsAreUpTo
functions_up_to types interfaces linked hold are own fs s at has =
    let f = has_flat function_ids fs s has in
    let a = are.own own fs f.0 at f.1 in
    let e = has_mapped (λ (z : String Global × Function). z.1) a.0.functions.entries f.0 a.2 in
    let in_function : Has (function_ids e.0.1) s = subst (λ (h : Function). Has (function_ids h) s) (sym e.2) f.2 in
    let up = hold.functions_use own s a.0 a.1 (flat_has (λ (z : String Global × Function). function_ids z.1) a.0.functions.entries e.0 s e.1 in_function) in
    subst (λ (n : ℕ). IsMadeUpTo types n s) (let z : 0 + own ≡ own = omega arith in z) up
