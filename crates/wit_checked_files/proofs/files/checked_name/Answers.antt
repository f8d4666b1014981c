use Rattle.std.proofs.Common.{◌≡◌, List, Some, map, sym, refl, ap, ◌∙◌}
use Rattle.std.specs.Prelude.{option_map}
use Rattle.wit_syntax.specs.Ast.{FileTree}
use Rattle.wit_syntax.specs.AstView as view
use Rattle.wit_rules.specs.Breaks.{IsFaultOf}
use Rattle.wit_rules.specs.Facts.{IsNamed, PackageBreaks, FilesBreak, in_package, no_header, package_name}
use Rattle.wit_rules.proofs.Breaking.{widened}
use Rattle.wit_scopes.proofs.Outcomes.{and_ok, and_err, if_err}
use Rattle.wit_checked_files.proofs.files.checked_name.Goals as goal

pub returns-in-Some-clause-ok : goal.returns-in-Some-clause-ok
returns-in-Some-clause-ok c =
    let files : List FileTree = map view.file c.args.texts.now.files.items in
    let first : option_map view.package_name c.first_name.result ≡ package_name files = rw c.as_slice.ensures.value at c.first_name.ensures in
    let named : package_name files ≡ Some (view.package_name c.in-Some.name) = sym first ∙ ap (option_map view.package_name) c.in-Some.is in
    rw c.and.ensures
    (and_ok c.check_files.result c.in-Some.name (λ n. IsNamed files (view.package_name n)) (λ kept. record { named = named; kept = kept }) (rw c.as_slice-in-Some.ensures.value at c.check_files.ensures.ok))

pub returns-in-Some-clause-cause : goal.returns-in-Some-clause-cause
returns-in-Some-clause-cause c =
    let files : List FileTree = map view.file c.args.texts.now.files.items in
    let me = view.package_name c.in-Some.name in
    let first : option_map view.package_name c.first_name.result ≡ package_name files = rw c.as_slice.ensures.value at c.first_name.ensures in
    let named : package_name files ≡ Some me = sym first ∙ ap (option_map view.package_name) c.in-Some.is in
    rw c.and.ensures
    (and_err c.check_files.result c.in-Some.name (IsFaultOf (FilesBreak files))
    (if_err c.check_files.result (IsFaultOf (PackageBreaks me files)) (IsFaultOf (FilesBreak files)) (widened (PackageBreaks me files) (FilesBreak files) (λ rule at b. in_package me named b))
    (rw c.as_slice-in-Some.ensures.value at c.check_files.ensures.cause)))

pub returns-in-None-clause-cause : goal.returns-in-None-clause-cause
returns-in-None-clause-cause c =
    let files : List FileTree = map view.file c.args.texts.now.files.items in
    let first : option_map view.package_name c.first_name.result ≡ package_name files = rw c.as_slice.ensures.value at c.first_name.ensures in
    no_header refl (sym first ∙ ap (option_map view.package_name) c.in-None.is) (rw c.as_slice-in-None.ensures.value at c.header_place.ensures)
