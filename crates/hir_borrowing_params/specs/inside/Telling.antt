-- The answer on a carrier.
use Rattle.std.specs.Prelude.{Bool, true, false}
use Rattle.hir_borrowing_params.specs.declared.infos.ParamBorrowInfo.{ParamBorrowInfo}
use Rattle.hir_borrowing_params.specs.declared.infos.ParamBorrowInfo.TheVariants as info

-- by whether it is a slice, and whether something may be borrowed from it
abbrev pub carrier_told : Bool → Bool → ParamBorrowInfo
carrier_told true true = info.BorrowedSlice
carrier_told true false = info.TemporarySlice
carrier_told false true = info.BorrowedOpaque
carrier_told false false = info.NotBorrowed
