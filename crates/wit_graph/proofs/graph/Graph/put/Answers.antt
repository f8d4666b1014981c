use Rattle.std.proofs.Common.{◌≡◌, ℕ, List, [], ◌∷◌, ◌++◌, length, sym, subst, ap, ◌∙◌}
use Rattle.indexmap.specs.IndexMap.{insert_entry}
use Rattle.wit_types.specs.contracts.«package».PackageNamePartialEq.TheImpl.{eq-value as package_eq}
use Rattle.wit_types.specs.declared.«package».PackageName.{PackageName}
use Rattle.wit_moves.specs.View.{owners}
use Rattle.wit_graph.specs.Graph.{Graph, IsGraph, AreWhole}
use Rattle.wit_graph_parts.specs.Passed.wit_graph_worlds-Names.{IsSameName}
use Rattle.wit_graph_parts.specs.Own.{parts}
use Rattle.wit_graph.specs.Push.{IsAdded, HasMore}
use Rattle.wit_graph.specs.declared.tables.Tables.{Tables}
use Rattle.wit_graph.proofs.Finishing.{on_ok_at, on_err_at, put_is_graph, insert_fresh}
use Rattle.wit_graph.proofs.graph.Graph.put.Goals as goal

pub invariant_of-self-2 : goal.invariant_of-self-2
invariant_of-self-2 c =
    let a = (on_ok_at c.pushed-tables.result.done c.in_ok-done.field-0 (IsAdded c.args.features.now c.replace-name.new.dest c.args.own.docs (owners c.args.plan.now.owners) c.args.plan.now.types (parts c.args.own.parts) c.replace-tables.result c.pushed-tables.result.tables) c.in_ok-done.was c.pushed-tables.ensures.ok) in
    put_is_graph package_eq.it c.self.inside.names.entries c.self.inside.tables.packages a.q c.pushed-tables.result.tables c.insert.new.self.entries c.replace-name.result c.from_index-owner.result (on_ok_at c.pushed-tables.result.done c.in_ok-done.field-0 (AreWhole c.pushed-tables.result.tables) c.in_ok-done.was c.pushed-tables.ensures.whole)
    (a.packages_are ∙ ap (λ (t : Tables). t.packages ++ a.q ∷ []) c.replace-tables.ensures.value) (on_ok_at c.insert.result c.unwrap.result (c.insert.new.self.entries ≡ insert_entry package_eq.it c.reserve.new.self.entries c.replace-name.result c.from_index-owner.result) c.unwrap.ensures c.insert.ensures.entries ∙ ap (λ (es : List (PackageName × ℕ)). insert_entry package_eq.it es c.replace-name.result c.from_index-owner.result) c.reserve.ensures.entries) (c.from_index-owner.ensures ∙ c.len.ensures) c.self.invariant.names_are

pub returns-clause-ok : goal.returns-clause-ok
returns-clause-ok c = record {
  same = c.replace-name.new.dest;
  is_same = subst (IsSameName c.args.own.name) (sym c.replace-name.ensures.after) c.in_ok-copy.ensures;
  added = subst (λ (t : Tables). IsAdded c.args.features.now c.replace-name.new.dest c.args.own.docs (owners c.args.plan.now.owners) c.args.plan.now.types (parts c.args.own.parts) t c.pushed-tables.result.tables) (c.replace-tables.ensures.value ∙ ap (λ (g : Graph). g.tables) c.self.view_is) (on_ok_at c.pushed-tables.result.done c.in_ok-done.field-0 (IsAdded c.args.features.now c.replace-name.new.dest c.args.own.docs (owners c.args.plan.now.owners) c.args.plan.now.types (parts c.args.own.parts) c.replace-tables.result c.pushed-tables.result.tables) c.in_ok-done.was c.pushed-tables.ensures.ok);
  id_is = (c.from_index-owner.ensures ∙ c.len.ensures) ∙ ap (λ (g : Graph). length g.tables.packages) c.self.view_is;
  names_are = (on_ok_at c.insert.result c.unwrap.result (c.insert.new.self.entries ≡ insert_entry package_eq.it c.reserve.new.self.entries c.replace-name.result c.from_index-owner.result) c.unwrap.ensures c.insert.ensures.entries ∙ ap (λ (es : List (PackageName × ℕ)). insert_entry package_eq.it es c.replace-name.result c.from_index-owner.result) c.reserve.ensures.entries) ∙ ap (λ (k : PackageName). insert_entry package_eq.it c.self.inside.names.entries k c.from_index-owner.result) c.replace-name.ensures.value ∙ ap (λ (g : Graph). insert_entry package_eq.it g.names c.args.own.name c.from_index-owner.result) c.self.view_is;
}

pub returns-clause-more : goal.returns-clause-more
returns-clause-more c = record {
  tables = subst (λ (t : Tables). HasMore t c.pushed-tables.result.tables) (c.replace-tables.ensures.value ∙ ap (λ (g : Graph). g.tables) c.self.view_is)
      (on_ok_at c.pushed-tables.result.done c.in_ok-done.field-0 (HasMore c.replace-tables.result c.pushed-tables.result.tables) c.in_ok-done.was c.pushed-tables.ensures.more);
  names = (c.args.own.name, c.from_index-owner.result) ∷ [];
  names_are = ((on_ok_at c.insert.result c.unwrap.result (c.insert.new.self.entries ≡ insert_entry package_eq.it c.reserve.new.self.entries c.replace-name.result c.from_index-owner.result) c.unwrap.ensures c.insert.ensures.entries ∙ ap (λ (es : List (PackageName × ℕ)). insert_entry package_eq.it es c.replace-name.result c.from_index-owner.result) c.reserve.ensures.entries) ∙ ap (λ (k : PackageName). insert_entry package_eq.it c.self.inside.names.entries k c.from_index-owner.result) c.replace-name.ensures.value ∙ ap (λ (g : Graph). insert_entry package_eq.it g.names c.args.own.name c.from_index-owner.result) c.self.view_is) ∙ insert_fresh package_eq.it c.args.self.now.names c.args.own.name c.from_index-owner.result c.requires.fresh;
}

pub pushed-tables-requires-clause-whole : goal.pushed-tables-requires-clause-whole
pushed-tables-requires-clause-whole c = subst AreWhole (sym c.replace-tables.ensures.value) c.self.invariant.whole

pub invariant_of-self-in_err-done : goal.invariant_of-self-in_err-done
invariant_of-self-in_err-done c =
    let same = on_err_at c.pushed-tables.result.done c.in_err-done.field-0.0 (c.pushed-tables.result.tables ≡ c.replace-tables.result) c.in_err-done.was c.pushed-tables.ensures.err ∙ c.replace-tables.ensures.value in
    subst (λ (t : Tables). IsGraph (record { tables = t; names = c.reserve.new.self.entries })) (sym same)
    (subst (λ (n : List (PackageName × ℕ)). IsGraph (record { tables = c.self.inside.tables; names = n })) (sym c.reserve.ensures.entries) c.self.invariant)
