use Rattle.std.proofs.Common.{List, map, subst}
use Rattle.std.proofs.lemmas.Result.{err_from_is_err_and, IfOk-weaker, IfErr-weaker}
use Rattle.wasm_types.specs.declared.entries.Import.{Import}
use Rattle.wasm_types.specs.Entries.{import_value}
use Rattle.link_table.specs.Cause.{IsTableCause}
use Rattle.link_table.specs.Linking.{linking_value}
use Rattle.link_table.specs.View.{AreExportLinks}
use Rattle.link_table.specs.Walks.{ArePlain, IsWalkCause, IsExportsCause, AreChecked}
use Rattle.link_table.proofs.Causes.{has_first, has_second, walk_cause, apart_cause, exports_cause}
use Rattle.link_table.proofs.lookup.Lookup.links.Goals as goal

pub check_imports-requires-clause-trees : goal.check_imports-requires-clause-trees
check_imports-requires-clause-trees c = λ f h. c.requires.trees f (has_first _ _ f h)

pub returns-in_err-check_imports-clause-cause : goal.returns-in_err-check_imports-clause-cause
returns-in_err-check_imports-clause-cause c =
    let l = linking_value c.args.self.now.linking in
    let fs = map (λ f. f.now) c.args.imported.now in
    let moved = err_from_is_err_and c.from_residual.result c.from_residual.ensures.1 in
    rw (moved.1, moved.2)
    (walk_cause l fs c.in_err-check_imports.field-0.0 c.requires.imported (subst (λ (xs : List Import). IsWalkCause l (map import_value xs) fs c.in_err-check_imports.field-0.0) c.as_slice.ensures.value c.in_err-check_imports.ensures.cause))

pub returns-in_err-check_apart-clause-cause : goal.returns-in_err-check_apart-clause-cause
returns-in_err-check_apart-clause-cause c =
    let l = linking_value c.args.self.now.linking in
    let moved = err_from_is_err_and c.from_residual-in_err-check_apart.result c.from_residual-in_err-check_apart.ensures.1 in
    rw (moved.1, moved.2)
    (apart_cause l (map (λ f. f.now) c.args.exported.now) c.in_err-check_apart.field-0.0 c.requires.exported c.in_err-check_apart.ensures.cause)

pub export_links-requires-clause-function : goal.export_links-requires-clause-function
export_links-requires-clause-function c = λ f h. c.requires.trees f (has_second _ _ f h)

pub returns-clause-links : goal.returns-clause-links
returns-clause-links c =
    let l = linking_value c.args.self.now.linking in
    let fs = map (λ f. f.now) c.args.imported.now in
    let gs = map (λ f. f.now) c.args.exported.now in
    IfOk-weaker c.export_links.result (λ v. AreExportLinks l gs v.items) (λ v. AreChecked l fs gs v.items) (λ v links. record {
      plain = subst (λ (xs : List Import). ArePlain l (map import_value xs) fs) c.as_slice.ensures.value c.in_ok-check_imports.ensures.plain;
      apart = c.in_ok-check_apart.ensures.none;
      links_are = links;
    }) c.export_links.ensures.links

pub returns-clause-cause : goal.returns-clause-cause
returns-clause-cause c =
    let l = linking_value c.args.self.now.linking in
    let gs = map (λ f. f.now) c.args.exported.now in
    IfErr-weaker c.export_links.result (IsExportsCause l gs) (IsTableCause l) (λ fault cause. exports_cause l gs fault c.requires.exported cause) c.export_links.ensures.cause
