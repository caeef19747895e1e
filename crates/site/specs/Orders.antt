-- Work orders: what is handed out, and what spending one does. Assumes nothing.
use Rattle.std.specs.Prelude.{ℕ, Bool, true, false, cond, not, ◌&&◌, is_ok, Ok, Result, ◌==◌, nat_lt, slice_set}
use Rattle.base.specs.Answers.{refuse, pass}
use Rattle.rows.specs.Model.{RowModel, Held}
use Rattle.standing.specs.Sets.{set_of}
use Rattle.site.specs.declared.fault.SiteCause.{SiteCause}
use Rattle.site.specs.declared.fault.SiteCause.TheVariants.{MarkClosed}
use Rattle.site.specs.declared.orders.Order.{Order}
use Rattle.site.specs.declared.orders.Refilled.{Refilled}
use Rattle.site.specs.Model.{SiteModel, with_marks, with_row, fitted, kept, marked, standing, too_few, lacking}
use Rattle.site.specs.Calls.{of_fitted, cabinet_call, rebuilding, rebuilt_record}

-- an order for a cabinet, as it is handed out
abbrev pub order_for : ℕ → Order
order_for c = record { cabinet = c; unspent = true }

-- swap
abbrev pub swap_answer : SiteModel → ℕ → Result Order SiteCause
swap_answer S c = pass (λ why. why) (cabinet_call S c) (λ _. Ok (order_for c))

-- resume
abbrev pub resume_answer : SiteModel → ℕ → Result Order SiteCause
resume_answer S c = of_fitted S c (refuse (not (marked S c)) MarkClosed (Ok (order_for c)))

-- the files that a refill of cabinet c serves: current, not standing there though it is in reach, and standing in k others; none
-- with short memory, and none whose record cannot be rebuilt
abbrev pub served : SiteModel → ℕ → Bool → ℕ → Bool
served S c short f =
    (kept S f).current && nat_lt c (fitted S) && lacking S f c && not (too_few S f) && not short && is_ok (rebuilding S f c)

abbrev pub refilled_row : SiteModel → ℕ → Bool → RowModel
refilled_row S c short = record {
  count = S.row.count;
  room = S.row.room;
  reach = S.row.reach;
  slot = λ d g. cond (d == c && nat_lt g 8 && served S c short g) (Held (rebuilt_record S g c)) (S.row.slot d g);
}

-- the current files for which a cabinet does not stand
abbrev pub left : SiteModel → ℕ → ℕ
left S c = set_of (λ f. (kept S f).current && not (nat_lt c (fitted S) && standing S f c)) 8

-- refill: the files written, and those left afterwards; the mark is closed exactly if none is
abbrev pub refill_answer : SiteModel → ℕ → Bool → Refilled
refill_answer S c short = record {
  written = set_of (served S c short) 8;
  left = left (with_row S (refilled_row S c short)) c;
}

abbrev pub refill_after : SiteModel → ℕ → Bool → SiteModel
refill_after S c short =
    with_marks S (cond ((refill_answer S c short).left == 0) (slice_set S.marks c false) S.marks) (refilled_row S c short)
