-- The results of making an image, and their causes.
use Rattle.std.specs.Prelude.{◌≡◌, ℕ, ◌≤◌, ◌<◌, Result, Ok, Err}
use Rattle.lis_ports.specs.Calls.{Rose}
use Rattle.lis_open.specs.declared.making.MakeFault.{MakeFault}
use Rattle.lis_open.specs.declared.making.MakeFault.TheVariants.{TooShort, DiskFault}

-- The disk is too short exactly if there are fewer bytes than are needed, and the result has both numbers.
abbrev pub IsShortWhere : {T : Type 0} → ℕ → ℕ → Result T MakeFault → Type 0
IsShortWhere have needed (Ok done) = needed ≤ have
IsShortWhere have needed (Err (TooShort len need)) = (len ≡ have) × (need ≡ needed) × (have < needed)
IsShortWhere have needed (Err DiskFault) = needed ≤ have

-- The result is a disk fault only if the count rose. With every other result the count stays.
abbrev pub HasMakeCause : {T : Type 0} → ℕ → ℕ → Result T MakeFault → Type 0
HasMakeCause before now (Ok done) = now ≡ before
HasMakeCause before now (Err (TooShort len need)) = now ≡ before
HasMakeCause before now (Err DiskFault) = Rose before now
