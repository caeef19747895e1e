-- A site of the program, as the definitions see it. Assumes nothing.
use Rattle.algebra.specs.declared.field.Field.{Ghosts as Field}
use Rattle.cipher.specs.declared.Cipher.{Ghosts as Cipher}
use Rattle.erasure.specs.declared.plan.Plan.{Plan}
use Rattle.erasure.specs.Whole.{coding_of}
use Rattle.rows.specs.declared.row.ReadRow.{Ghosts as Row}
use Rattle.site.specs.declared.site.Site.{Site}
use Rattle.site.specs.Model.{Fitting, SiteModel, site}

-- a plan, with what a field and a cipher mean
abbrev pub fitting_of : {F C : Type 0} → Field F → Cipher C → Plan → Fitting
fitting_of field cipher plan = record {
  code = coding_of field plan;
  fitted = plan.n;
  encrypt = cipher.encrypted;
  cipher = cipher.number;
}

-- and what a site keeps, with what its row means
abbrev pub model_of : {R C F : Type 0} → Row R → Field F → Cipher C → Site R C F → SiteModel
model_of row field cipher s = site (fitting_of field cipher s.plan) s.files s.marks (row.model s.row)
