-- Walks over linked functions, one by one.
use Rattle.std.proofs.Common.{◌≡◌, ℕ, false, zero, suc, ◌+◌, ◌<◌, ◌≤◌, List, [], ◌∷◌, ◌++◌, map, take, length, Option, Some, None, Bor, inl, inr, refl, sym, subst, ap, ◌∙◌, append_assoc, arith}
use Rattle.std.proofs.lemmas.Grind.{flat_map-append}
use Rattle.std.proofs.lemmas.List.{take_more, take_all, map-append}
use Rattle.std.proofs.lemmas.Option.{same_Some, slice_get_within, slice_get-map, slice_get-get_or, get_or_from_slice_get}
use Rattle.std.specs.Prelude.{slice_get, get_or, option_map, option_and_then, option_to_list}
use Rattle.wasm_types.specs.declared.entries.Import.{Import}
use Rattle.wasm_types.specs.Entries.{ImportValue, import_value}
use Rattle.wasm_format.specs.Module.{imported_type}
use Rattle.canonical_options.specs.Passed.flat_types-Signature.{RequiredValue}
use Rattle.wit_types.specs.declared.mangling.AbiVariant.TheVariants.{GuestImport}
use Rattle.wit_order.specs.Order.{Has}
use Rattle.wit_types.specs.declared.function.Function.{Function}
use Rattle.wit_types.specs.declared.world.WorldItem.{WorldItem}
use Rattle.wit_types.specs.declared.world_key.WorldKey.{WorldKey}
use Rattle.core_links.proofs.Passed.wit_core_items-Growing.{below_or_at}
use Rattle.linked_types.proofs.Walks.{has_at, has_one_more}
use Rattle.core_links.proofs.Paired.{taken, of_taken, import_at}
use Rattle.link_table.specs.Apart.{HaveNoPostReturns, PostReturnNames}
use Rattle.link_table.specs.Imports.{IsImportCause}
use Rattle.link_table.specs.Linking.{Linking, types_of, function_at, functions_at, AreFunctionsOf}
use Rattle.link_table.specs.Options.{IsMissing, asks}
use Rattle.link_table.specs.Types.{Requires, IsOfType}
use Rattle.link_table.specs.Walks.{IsPlain, ArePlain, IsWalkCause}
use Rattle.link_table.specs.declared.fault.TableFault.{TableFault}

-- ---- the next of a list

pub mapped_at : {X Y : Type 0} (g : X → Y) (xs : List X) (k : ℕ) (d : X) → k < length xs → d ≡ get_or xs k d → slice_get (map g xs) k ≡ Some (g d)
mapped_at g xs k d lt is = slice_get-map g xs k ∙ ap (option_map g) (slice_get-get_or xs k d lt ∙ ap (λ (x : _). Some x) (sym is))

pub take_step : {X : Type 0} (xs : List X) (k : ℕ) (x : X) → slice_get xs k ≡ Some x → take (k + 1) xs ≡ take k xs ++ x ∷ []
take_step xs k x at = take_more xs k x (slice_get_within xs k x at) ∙ ap (λ (y : _). take k xs ++ y ∷ []) (get_or_from_slice_get xs k x x at)

-- ---- functions behind references

abbrev now : Bor Function → Function
now f = f.now

pub function_at_place : (fs : List (Bor Function)) (k : ℕ) (f : Bor Function) → k < length fs → f ≡ get_or fs k f → slice_get (map (λ (g : Bor Function). g.now) fs) k ≡ Some f.now
function_at_place fs k f lt is = mapped_at now fs k f lt is

pub function_has : (fs : List (Bor Function)) (k : ℕ) (f : Bor Function) → k < length fs → f ≡ get_or fs k f → Has (map (λ (g : Bor Function). g.now) fs) f.now
function_has fs k f lt is = has_at (map now fs) k f.now (function_at_place fs k f lt is)

-- ---- post-returns

pub post_returns_next : (l : Linking) (fs : List (Bor Function)) (k : ℕ) (f : Bor Function) → k < length fs → f ≡ get_or fs k f → HaveNoPostReturns l (map (λ (g : Bor Function). g.now) (take k fs)) → IsMissing l (PostReturnNames l f.now)
    → HaveNoPostReturns l (map (λ (g : Bor Function). g.now) (take (k + 1) fs))
post_returns_next l fs k f lt is was missing g h =
    let step : take (k + 1) fs ≡ take k fs ++ f ∷ [] = take_step fs k f (slice_get-get_or fs k f lt ∙ ap (λ (x : Bor Function). Some x) (sym is)) in
    let grown : map now (take (k + 1) fs) ≡ map now (take k fs) ++ f.now ∷ [] = ap (map now) step ∙ map-append now (take k fs) (f ∷ []) in
    elim (has_one_more (map now (take k fs)) f.now g (subst (λ (gs : List Function). Has gs g) grown h)) as (λ _. IsMissing l (PostReturnNames l g)) [
      | inl last ↦ subst (λ (x : Function). IsMissing l (PostReturnNames l x)) (sym last) missing
      | inr before ↦ was g before
    ]

pub post_returns_all : (l : Linking) (fs : List (Bor Function)) (k : ℕ) → length fs ≤ k → HaveNoPostReturns l (map (λ (g : Bor Function). g.now) (take k fs)) → HaveNoPostReturns l (map (λ (g : Bor Function). g.now) fs)
post_returns_all l fs k past was = subst (λ (gs : List (Bor Function)). HaveNoPostReturns l (map now gs)) (take_all k fs past) was

-- ---- imports

pub plain_next : (l : Linking) (is : List ImportValue) (fs : List Function) (n : ℕ) (i : ImportValue) (f : Function) → slice_get is n ≡ Some i → slice_get fs n ≡ Some f → ArePlain l (take n is) fs → IsPlain l i f → ArePlain l (take (n + 1) is) fs
plain_next l is fs n i f at there was one k j g found beside =
    let t = of_taken is (n + 1) k j found in
    elim (below_or_at k n t.0) as (λ _. IsPlain l j g) [
      | inl less ↦ was k j g (taken is n k j less t.1) beside
      | inr e ↦
          let same : i ≡ j = same_Some i j (sym at ∙ ap (slice_get is) (sym e) ∙ t.1) in
          let of_it : f ≡ g = same_Some f g (sym there ∙ ap (slice_get fs) (sym e) ∙ beside) in
          subst (λ (x : Function). IsPlain l j x) of_it (subst (λ (x : ImportValue). IsPlain l x f) same one)
    ]

-- the import at a place
module _ (l : Linking) (xs : List Import) (fs : List Function) (k : ℕ) (d : Import) (lt : k < length xs) (f : Function) (there : slice_get fs k ≡ Some f) where
  abbrev one : ImportValue
  one = import_value (get_or xs k d)

  at : slice_get (map import_value xs) k ≡ Some one
  at = import_at xs k d lt

  pub walk_one : (fault : TableFault) → IsImportCause l one f fault → IsWalkCause l (map import_value xs) fs fault
  walk_one fault cause = (k, one, f, at, there, cause)

  pub plain_step : ArePlain l (take k (map import_value xs)) fs → IsOfType (types_of l) GuestImport f (imported_type l.main one.ty) → ((r : RequiredValue) → Requires (types_of l) GuestImport f r → asks r ≡ false) → ArePlain l (take (k + 1) (map import_value xs)) fs
  plain_step was typed plain = plain_next l (map import_value xs) fs k one f at there was (record { typed = typed; plain = plain })

pub plain_all : (l : Linking) (is : List ImportValue) (fs : List Function) (n : ℕ) → length is ≤ n → ArePlain l (take n is) fs → ArePlain l is fs
plain_all l is fs n past was = subst (λ (js : List ImportValue). ArePlain l js fs) (take_all n is past) was

-- ---- exports of a world

abbrev Entry : Type 0
Entry = WorldKey × WorldItem

-- what is at a place is a function
pub entry_is : (es : List Entry) (k : ℕ) (f : Function) → Some f ≡ option_and_then (λ (e : Entry). function_at e.1) (slice_get es k) → (e : Entry) × (slice_get es k ≡ Some e) × (function_at e.1 ≡ Some f)
entry_is es k f found = by (slice_get es k) refl found
  where
    by : (at : Option Entry) → slice_get es k ≡ at → Some f ≡ option_and_then (λ (e : Entry). function_at e.1) at → (e : Entry) × (slice_get es k ≡ Some e) × (function_at e.1 ≡ Some f)
    by None is e = absurd (let g : Some f ≡ None = e in cc)
    by (Some d) is e = (d, is, sym e)

past_all : {X : Type 0} (xs : List X) (n : ℕ) → slice_get xs n ≡ None → length xs ≤ n
past_all [] n e = omega arith
past_all (x ∷ xs) zero e = absurd (let g : Some x ≡ None = e in cc)
past_all (x ∷ xs) (suc n) e = (let r = past_all xs n e in omega (arith, r))

pub entry_is_none : (es : List Entry) (k : ℕ) → k < length es → None ≡ option_and_then (λ (e : Entry). function_at e.1) (slice_get es k) → (e : Entry) × Has es e × (function_at e.1 ≡ None)
entry_is_none es k lt found = by (slice_get es k) refl found
  where
    by : (at : Option Entry) → slice_get es k ≡ at → None ≡ option_and_then (λ (e : Entry). function_at e.1) at → (e : Entry) × Has es e × (function_at e.1 ≡ None)
    by None is e = absurd (let p = past_all es k is in omega (arith, lt, p))
    by (Some d) is e = (d, has_at es k d is, sym e)

pub exported_next : (es : List Entry) (k : ℕ) (f : Function) (start old new : List Function) → Some f ≡ option_and_then (λ (e : Entry). function_at e.1) (slice_get es k) → old ≡ start ++ functions_at (take k es) → new ≡ old ++ f ∷ []
    → new ≡ start ++ functions_at (take (k + 1) es)
exported_next es k f start old new found was pushed =
    let e = entry_is es k f found in
    let one : functions_at (e.0 ∷ []) ≡ f ∷ [] = ap (λ (o : Option Function). option_to_list o ++ []) e.2 in
    pushed ∙ ap (λ (l : List Function). l ++ f ∷ []) was ∙ append_assoc start (functions_at (take k es)) (f ∷ [])
    ∙ ap (λ (l : List Function). start ++ l) (ap (λ (l : List Function). functions_at (take k es) ++ l) (sym one) ∙ sym (flat_map-append (λ (d : Entry). option_to_list (function_at d.1)) (take k es) (e.0 ∷ [])) ∙ ap functions_at (sym (take_step es k e.0 e.1)))

pub all_functions_next : (es : List Entry) (k : ℕ) (f : Function) → Some f ≡ option_and_then (λ (e : Entry). function_at e.1) (slice_get es k) → AreFunctionsOf (take k es) → AreFunctionsOf (take (k + 1) es)
all_functions_next es k f found was d h =
    let e = entry_is es k f found in
    elim (has_one_more (take k es) e.0 d (subst (λ (ds : List Entry). Has ds d) (take_step es k e.0 e.1) h)) as (λ _. (g : Function) × (function_at d.1 ≡ Some g)) [
      | inl last ↦ (f, ap (λ (x : Entry). function_at x.1) last ∙ e.2)
      | inr before ↦ was d before
    ]

pub all_functions_all : (es : List Entry) (k : ℕ) → length es ≤ k → AreFunctionsOf (take k es) → AreFunctionsOf es
all_functions_all es k past was = subst AreFunctionsOf (take_all k es past) was
