use Rattle.std.proofs.Common.{◌++◌, ◌∷◌, [], refl, sym, subst, ap, ◌∙◌}
use Rattle.std.proofs.lemmas.Result.{on_ok_weaker}
use Rattle.std.specs.Prelude.{Some}
use Rattle.core_links.specs.Imports.{StandsAt}
use Rattle.core_links.specs.Marks.{IsInterfaceAt, AreMarksOf}
use Rattle.core_links.specs.Names.{names_in}
use Rattle.core_links.proofs.Marking.{own_marked, linked_marked, unmarked, drop_unmarked}
use Rattle.core_links.proofs.needed.Marks.mark_place.Goals as goal

pub returns-in-OwnFunction-clause-marks : goal.returns-in-OwnFunction-clause-marks
returns-in-OwnFunction-clause-marks c is i m at =
    let n = names_in c.args.names.now in
    on_ok_weaker c.mark.result (λ marks. own_marked n is i c.args.self.now.own.items c.args.self.now.interfaces.items m c.mark.new.marks.items c.in-OwnFunction.entry (subst (StandsAt n i) c.in-OwnFunction.is at) marks) c.mark.ensures

pub returns-in-Some-default-Interface-clause-marks : goal.returns-in-Some-default-Interface-clause-marks
returns-in-Some-default-Interface-clause-marks c is i m at =
    let n = names_in c.args.names.now in
    let p = c.in-InterfaceFunction in
    let e = c.in-Some-default-Interface in
    let new = c.mark_in.new.self in
    let there : IsInterfaceAt n p.entry e.id = (e.field-0-0.now, e.field-0-1-1, e.field-0-1-2, sym e.ensures.entry ∙ ap (λ x. Some (e.field-0-0.now, x)) e.field-0-1-is) in
    on_ok_weaker c.mark_in.result
    (λ marks. subst (λ own. AreMarksOf n (is ++ i ∷ []) own.items new.interfaces.items) (sym c.mark_in.ensures.own) (linked_marked n is i c.args.self.now.own.items c.args.self.now.interfaces.items m new.interfaces.items p.entry p.function c.index.result (subst (StandsAt n i) p.is at) (subst (IsInterfaceAt n p.entry) (sym c.index.ensures) there) marks))
    c.mark_in.ensures.marks

pub returns-in-OwnDrop : goal.returns-in-OwnDrop
returns-in-OwnDrop c = record {
  marks = λ is i m at. unmarked (names_in c.args.names.now) is i c.args.self.now.own.items c.args.self.now.interfaces.items m c.args.place at (drop_unmarked (names_in c.args.names.now) c.args.self.now.own.items c.args.self.now.interfaces.items c.args.place c.in-OwnDrop.is);
  so_many = refl;
}
