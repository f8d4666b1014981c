-- What the results of functions hold is what they mean.
use Rattle.std.proofs.Common.{◌≡◌, ℕ, ◌+◌, zero, suc, List, [], ◌∷◌, ◌++◌, length, Option, Some, None, Result, Ok, Err, map, take, refl, sym, subst, ap, ◌∙◌, arith}
use Rattle.std.proofs.lemmas.Option.{same_Some}
use Rattle.std.proofs.lemmas.List.{length-map, length-append, take_at}
use Rattle.std.specs.Prelude.{slice_get, option_map, OnOk}
use Rattle.std.specs.Result.{result_and}
use Rattle.wit_words.specs.declared.source_map.Span.{Span}
use Rattle.wit_types.specs.declared.kind.«Type».{«Type» as Ref}
use Rattle.wit_types.specs.declared.function.Function.{Function}
use Rattle.wit_types.specs.declared.function.Param.{Param}
use Rattle.wit_types.specs.declared.interface.TypeDef.{TypeDef}
use Rattle.wit_lookups.specs.Passed.wit_productions-TypeTree.{TypeTree, TypeOption, opt, a_type}
use Rattle.wit_lookups.specs.Passed.wit_scopes-Members.{MemberKind, MemberTree, used, defined, function, method, static, constructor}
use Rattle.wit_lookups.specs.Passed.wit_scopes-Scopes.{ItemScope}
use Rattle.wit_lookups.specs.Passed.wit_type_names-TypeNames.{param_parts, signature_parts}
use Rattle.wit_lookups.specs.Passed.wit_rules-declared-fault-PackageRule.{PackageRule}
use Rattle.wit_lookups.specs.Passed.wit_rules-declared-fault-PackageFault.{PackageFault}
use Rattle.wit_lookups.specs.Passed.wit_rules-Breaks.{Breaks, IsKept, IsFaultOf}
use Rattle.wit_lookups.proofs.Passed.wit_rules-Breaking.{widened}
use Rattle.wit_resources.specs.Passed.wit_arena-Tree.{Name, PackageText, Place, Owner, Tree, TreeOption, Trees, no_tree, a_tree, no_trees, trees_and, resource_leaf}
use Rattle.wit_resources.specs.Passed.wit_arena-Table.{Entries}
use Rattle.wit_resources.specs.Passed.wit_arena-Meaning.{Means, MeansPart, means_a_type, MeansParts, means_none, means_more}
use Rattle.wit_resources.specs.Passed.wit_arena-LowerParams.{written_param, param_label}
use Rattle.wit_resources.specs.Passed.wit_arena-Unfold.{Owners, and_then, value_tree, part_tree, part_trees, trees}
use Rattle.wit_resources.specs.Passed.wit_arena-Standing.{Grows}
use Rattle.wit_resources.proofs.Passed.wit_arena-Lists.{get_last}
use Rattle.wit_resources.proofs.Passed.wit_arena-Extending.{Extends, parts_extend}
use Rattle.wit_resources.proofs.Passed.wit_arena-Meanings.{types_stand_for_their_meaning}
use Rattle.wit_functions.specs.Signature.{all_params, all_result, result_of}
use Rattle.wit_functions.specs.Function.{LowersFunction}
use Rattle.wit_resources.specs.Natures.{natures, AreOfFirst}
use Rattle.wit_resources.specs.declared.natures.Nature.{Nature}
use Rattle.wit_resources.specs.Failing.{ResultFails}
use Rattle.wit_resources.specs.Rules.{type_span, declared_result, PartBreaks, ResultBreaks}
use Rattle.wit_resources.proofs.Told.{natures_tell_what_types_mean}
use Rattle.wit_resolved_scopes.specs.Faults.{StandsSoFar}

-- ---- parts at their places

abbrev tree_at : Trees → ℕ → Option TreeOption
tree_at no_trees i = None
tree_at (trees_and t ts) zero = Some t
tree_at (trees_and t ts) (suc i) = tree_at ts i

means_at : (me : PackageText) (scopes : List ItemScope) (given : Owner → Name → Tree) (o : Place) (ps : List TypeOption) (ts : Trees) → MeansParts me scopes given o ps ts → (i : ℕ) (p : TypeOption) → slice_get ps i ≡ Some p
    → (t : TreeOption) × (tree_at ts i ≡ Some t) × MeansPart me scopes given o p t
means_at me scopes given o ps ts (means_none o2) i p at = absurd cc
means_at me scopes given o ps ts (means_more o2 e es t ts2 h more) zero p at = (t, refl, subst (λ (q : TypeOption). MeansPart me scopes given o2 q t) (same_Some e p at) h)
means_at me scopes given o ps ts (means_more o2 e es t ts2 h more) (suc i) p at = means_at me scopes given o2 es ts2 more i p at

pub split : (done : List (Option Tree)) (p : Option TreeOption) (rest : Option Trees) (ts : Trees) → and_then (λ t. option_map (trees_and t) rest) p ≡ Some ts → (t : TreeOption) × (us : Trees) × (p ≡ Some t) × (rest ≡ Some us) × (trees_and t us ≡ ts)
split done None rest ts h = absurd cc
split done (Some t) None ts h = absurd cc
split done (Some t) (Some us) ts h = (t, us, refl, refl, same_Some (trees_and t us) ts h)

trees_at : (done : List (Option Tree)) (rs : List (Option Ref)) (ts : Trees) → part_trees done rs ≡ Some ts → (i : ℕ) (r : Option Ref) → slice_get rs i ≡ Some r → (t : TreeOption) × (tree_at ts i ≡ Some t) × (part_tree done r ≡ Some t)
trees_at done [] ts h i r at = absurd cc
trees_at done (q ∷ rs) ts h zero r at =
    let s = split done (part_tree done q) (part_trees done rs) ts h in
    (s.0, ap (λ (us : Trees). tree_at us 0) (sym s.4), ap (part_tree done) (sym (same_Some q r at)) ∙ s.2)
trees_at done (q ∷ rs) ts h (suc i) r at =
    let s = split done (part_tree done q) (part_trees done rs) ts h in
    let more = trees_at done rs s.1 s.3 i r at in
    (more.0, ap (λ (us : Trees). tree_at us (suc i)) (sym s.4) ∙ more.1, more.2)

a_part : (done : List (Option Tree)) (q : Option Ref) (u : Tree) → part_tree done q ≡ Some (a_tree u) → (r : Ref) × (q ≡ Some r) × (value_tree done r ≡ Some u)
a_part done None u h = absurd (let f : Some no_tree ≡ Some (a_tree u) = h in cc)
a_part done (Some r) u h = (r, refl, there (value_tree done r) h)
  where
    there : (o : Option Tree) → option_map a_tree o ≡ Some (a_tree u) → o ≡ Some u
    there None e = absurd cc
    there (Some v) e = let s : a_tree v ≡ a_tree u = same_Some (a_tree v) (a_tree u) e in cc

a_meaning : (me : PackageText) (scopes : List ItemScope) (given : Owner → Name → Tree) (o : Place) (e : TypeTree) (t : TreeOption) → MeansPart me scopes given o (a_type e) t → (u : Tree) × (t ≡ a_tree u) × Means me scopes given o e u
a_meaning me scopes given o e t (means_a_type o2 e2 u h) = (u, refl, h)

-- ---- functions

pub function_extends : (table : Entries) (a b : List TypeDef) (m : MemberTree) (f : Function) → LowersFunction table a m b f → Extends a b
function_extends table a b m f l = parts_extend table a b (signature_parts (all_params m) (all_result m)) (map (λ q. Some q.ty) f.params.items ++ f.result ∷ []) l.signature.types

-- what was known is known of the first types
pub first_known : (a b : List TypeDef) (ns : List Nature) → Extends a b → ns ≡ natures a → AreOfFirst b ns
first_known a b ns (more, e) is =
    let size : length b ≡ length a + length more = ap length e ∙ length-append a more in
    (length a, omega (arith, size), is ∙ ap natures (sym (ap (take (length a)) e ∙ take_at a more (length a) refl)))

-- what is declared is what is brought in
declared_there : (k : MemberKind) (whole : Span) (e : TypeTree) → declared_result k ≡ Some e → result_of k whole ≡ Some e
declared_there (used t n) whole e h = absurd cc
declared_there (defined d) whole e h = absurd cc
declared_there (function f) whole e h = h
declared_there (method r f) whole e h = h
declared_there (static r f) whole e h = h
declared_there (constructor r ps (Some t)) whole e h = h
declared_there (constructor r ps None) whole e h = absurd cc

module _ (me : PackageText) (scopes : List ItemScope) (owners : Owners) (o : Place) (table : Entries) (a b : List TypeDef) (m : MemberTree) (f : Function) (stands : StandsSoFar me scopes owners o table a) (l : LowersFunction table a m b f) where
  abbrev all_parts : List TypeOption
  all_parts = signature_parts (all_params m) (all_result m)

  abbrev all_refs : List (Option Ref)
  all_refs = map (λ q. Some q.ty) f.params.items ++ f.result ∷ []

  lowered : Grows owners resource_leaf a b × ((ts : Trees) × (part_trees (trees owners resource_leaf b) all_refs ≡ Some ts) × MeansParts me scopes resource_leaf o all_parts ts)
  lowered = (types_stand_for_their_meaning me scopes resource_leaf owners o table).lowered_parts a b all_parts all_refs stands.whole stands.right l.signature.types

  -- what stood there stays
  pub stands_after : StandsSoFar me scopes owners o table b
  stands_after = record { functional = stands.functional; whole = lowered.0.whole; right = (types_stand_for_their_meaning me scopes resource_leaf owners o table).kept a b lowered.0 stands.right }

  as_many : length f.params.items ≡ length (param_parts (all_params m))
  as_many =
      sym (length-map f.params.items param_label) ∙ ap length l.signature.labels ∙ length-map (all_params m) written_param ∙ sym (length-map (all_params m) (λ p. a_type p.ty))

  -- the result in the arena is what the declared one means
  pub result_there : (e : TypeTree) → declared_result m.kind ≡ Some e
      → (r : Ref) × (t : Tree) × (f.result ≡ Some r) × (value_tree (trees owners resource_leaf b) r ≡ Some t) × Means me scopes resource_leaf o e t
  result_there e is =
      let n : ℕ = length f.params.items in
      let part_is : slice_get all_parts n ≡ Some (a_type e) = ap (slice_get all_parts) as_many ∙ get_last (param_parts (all_params m)) (opt (all_result m)) ∙ ap (λ (t : Option TypeTree). Some (opt t)) (declared_there m.kind m.span e is) in
      let ref_is : slice_get all_refs n ≡ Some f.result = ap (slice_get all_refs) (sym (length-map f.params.items (λ (q : Param). Some q.ty))) ∙ get_last (map (λ q. Some q.ty) f.params.items) f.result in
      let means = means_at me scopes resource_leaf o all_parts lowered.1.0 lowered.1.2 n (a_type e) part_is in
      let unfolds = trees_at (trees owners resource_leaf b) all_refs lowered.1.0 lowered.1.1 n f.result ref_is in
      let meaning = a_meaning me scopes resource_leaf o e means.0 means.2 in
      let same : unfolds.0 ≡ a_tree meaning.0 = same_Some unfolds.0 means.0 (sym unfolds.1 ∙ means.1) ∙ meaning.1 in
      let part = a_part (trees owners resource_leaf b) f.result meaning.0 (unfolds.2 ∙ ap (λ (t : TreeOption). Some t) same) in
      (part.0, meaning.0, part.1, part.2, meaning.2)

  pub result_kept : (e : TypeTree) → declared_result m.kind ≡ Some e → IsKept (ResultFails (natures b) f.result (type_span e)) → IsKept (ResultBreaks me scopes o e)
  result_kept e is kept =
      let r = result_there e is in
      (natures_tell_what_types_mean me scopes owners o table b).result_kept e r.0 r.1 stands.functional r.3 r.4 (subst (λ (q : Option Ref). IsKept (ResultFails (natures b) q (type_span e))) r.2 kept)

  pub result_breaks : (e : TypeTree) (rule : PackageRule) (at : Span) → declared_result m.kind ≡ Some e → ResultFails (natures b) f.result (type_span e) rule at → ResultBreaks me scopes o e rule at
  result_breaks e rule at is fails =
      let r = result_there e is in
      (natures_tell_what_types_mean me scopes owners o table b).result_breaks e r.0 r.1 rule at r.3 r.4 (subst (λ (q : Option Ref). ResultFails (natures b) q (type_span e) rule at) r.2 fails)

-- ---- where there is a result

module _ (o : Option TypeTree) where
  pub placed_kept : (fails : Span → Breaks) (s : Span) → option_map type_span o ≡ Some s → IsKept (fails s) → IsKept (PartBreaks (λ e. fails (type_span e)) o)
  placed_kept fails s is kept = at_place o is
    where
      at_place : (p : Option TypeTree) → option_map type_span p ≡ Some s → IsKept (PartBreaks (λ e. fails (type_span e)) p)
      at_place None h = absurd cc
      at_place (Some e) h = subst (λ (t : Span). IsKept (fails t)) (sym (same_Some (type_span e) s h)) kept

  pub part_kept : (f g : TypeTree → Breaks) → ((e : TypeTree) → o ≡ Some e → IsKept (f e) → IsKept (g e)) → IsKept (PartBreaks f o) → IsKept (PartBreaks g o)
  part_kept f g lift = by o refl
    where
      by : (p : Option TypeTree) → o ≡ p → IsKept (PartBreaks f p) → IsKept (PartBreaks g p)
      by None h = λ kept rule at b. b
      by (Some e) h = λ kept. lift e h kept

  pub part_breaks : (f g : TypeTree → Breaks) → ((e : TypeTree) (rule : PackageRule) (at : Span) → o ≡ Some e → f e rule at → g e rule at) → (fault : PackageFault) → IsFaultOf (PartBreaks f o) fault → IsFaultOf (PartBreaks g o) fault
  part_breaks f g lift = widened (PartBreaks f o) (PartBreaks g o) (by o refl)
    where
      by : (p : Option TypeTree) → o ≡ p → (rule : PackageRule) (at : Span) → PartBreaks f p rule at → PartBreaks g p rule at
      by None h rule at b = b
      by (Some e) h rule at b = lift e rule at h b

-- what goes with the outcome of a call
pub and_on : {T U E : Type 0} (r : Result T E) (x : U) {P Q : Type 0} → (P → Q) → OnOk r P → OnOk (result_and r (Ok x)) Q
and_on (Ok y) x f p = f p
and_on (Err e) x f p = tt
