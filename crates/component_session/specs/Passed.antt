-- What crates above name of those below.
pub use Rattle.component_audit.specs.Texts as component_audit-Texts
pub use Rattle.component_audit.specs.declared.verdict.Verdict as component_audit-declared-verdict-Verdict
pub use Rattle.component_audit.specs.declared.verdict.Verdict.TheVariants as component_audit-declared-verdict-Verdict-TheVariants
pub use Rattle.handed_modules.specs.Modules as handed_modules-Modules
