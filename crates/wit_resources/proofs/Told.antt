-- What is known of types is what they mean.
use Rattle.std.proofs.Common.{◌≡◌, ℕ, List, Some, sym, ap, ◌∙◌}
use Rattle.wit_words.specs.declared.source_map.Span.{Span}
use Rattle.wit_words.specs.Slice.{Slice}
use Rattle.wit_types.specs.declared.kind.«Type».{«Type» as Ref}
use Rattle.wit_types.specs.declared.kind.«Type».TheVariants.{Id}
use Rattle.wit_types.specs.declared.interface.TypeDef.{TypeDef}
use Rattle.wit_rules.specs.Passed.wit_productions-TypeTree.{TypeTree}
use Rattle.wit_rules.specs.Passed.wit_scopes-Scopes.{ItemScope}
use Rattle.wit_rules.specs.declared.fault.PackageRule.{PackageRule}
use Rattle.wit_rules.specs.Breaks.{IsKept}
use Rattle.wit_arena.specs.Tree.{PackageText, Place, Tree, resource_leaf, is_resource}
use Rattle.wit_arena.specs.Table.{Entries}
use Rattle.wit_arena.specs.Meaning.{Has, Means}
use Rattle.wit_arena.specs.Unfold.{Owners, value_tree, trees}
use Rattle.wit_arena.specs.Standing.{AreStanding, AreFunctional}
use Rattle.wit_arena.proofs.OneMeaning.{types_mean_one_tree}
use Rattle.wit_resources.specs.Holding.{holds_borrow}
use Rattle.wit_resources.specs.Natures.{nature_of, ref_nature, natures}
use Rattle.wit_resources.specs.declared.natures.Nature.{Nature}
use Rattle.wit_resources.specs.Failing.{HandleFails, ResultFails}
use Rattle.wit_resources.specs.Rules.{type_span, HandleBreaks, ResultBreaks}
use Rattle.wit_resources.specs.Telling.{NaturesTell, NaturesTellWhatTypesMean}
use Rattle.wit_resources.proofs.Agreeing.{ref_agrees, value_agrees, all_agree}

module _ (me : PackageText) (scopes : List ItemScope) (owners : Owners) (o : Place) (table : Entries) (a : List TypeDef) where
  handle_breaks : (x : Slice) (rule : PackageRule) (at : Span) → AreStanding me scopes resource_leaf owners o table a → HandleFails (natures a) table x rule at → HandleBreaks me scopes o x rule at
  handle_breaks x rule at right h =
      let s = right x.text h.type_id h.entry in
      let known : ref_nature (natures a) (Id h.type_id) ≡ nature_of s.0 = ref_agrees (trees owners resource_leaf a) (natures a) (all_agree owners a) (Id h.type_id) s.0 s.1 in
      record { rule_is = h.rule_is; tree = s.0; means = s.2; other = sym (ap (λ (n : Nature). n.is_resource) known) ∙ h.other; stands = h.stands }

  handle_kept : (x : Slice) (i : ℕ) → AreFunctional scopes → AreStanding me scopes resource_leaf owners o table a → Has table (x.text, i) → IsKept (HandleFails (natures a) table x) → IsKept (HandleBreaks me scopes o x)
  handle_kept x i functional right entry kept rule at b =
      let s = right x.text i entry in
      let same : s.0 ≡ b.tree = (types_mean_one_tree me scopes resource_leaf functional).of_names o x.text s.0 b.tree s.2 b.means in
      let known : ref_nature (natures a) (Id i) ≡ nature_of s.0 = ref_agrees (trees owners resource_leaf a) (natures a) (all_agree owners a) (Id i) s.0 s.1 in
      kept rule at (record { rule_is = b.rule_is; type_id = i; entry = entry; other = ap (λ (n : Nature). n.is_resource) known ∙ ap is_resource same ∙ b.other; stands = b.stands })

  result_breaks : (e : TypeTree) (r : Ref) (t : Tree) (rule : PackageRule) (at : Span) → value_tree (trees owners resource_leaf a) r ≡ Some t → Means me scopes resource_leaf o e t
      → ResultFails (natures a) (Some r) (type_span e) rule at → ResultBreaks me scopes o e rule at
  result_breaks e r t rule at is means h =
      record { rule_is = h.rule_is; tree = t; means = means; holds = sym (value_agrees (trees owners resource_leaf a) (natures a) (all_agree owners a) r t is) ∙ h.holds; stands = h.stands }

  result_kept : (e : TypeTree) (r : Ref) (t : Tree) → AreFunctional scopes → value_tree (trees owners resource_leaf a) r ≡ Some t → Means me scopes resource_leaf o e t
      → IsKept (ResultFails (natures a) (Some r) (type_span e)) → IsKept (ResultBreaks me scopes o e)
  result_kept e r t functional is means kept rule at b =
      let same : t ≡ b.tree = (types_mean_one_tree me scopes resource_leaf functional).of_types o e t b.tree means b.means in
      kept rule at (record { rule_is = b.rule_is; holds = value_agrees (trees owners resource_leaf a) (natures a) (all_agree owners a) r t is ∙ ap holds_borrow same ∙ b.holds; stands = b.stands })

  told : NaturesTell me scopes owners o table a
  told = record { handle_breaks = handle_breaks; handle_kept = handle_kept; result_breaks = result_breaks; result_kept = result_kept }

pub natures_tell_what_types_mean : NaturesTellWhatTypesMean
natures_tell_what_types_mean me scopes owners o table a = told me scopes owners o table a
