-- What a contract sees of a `Region`: a finite map from the numbers of frames to lists.
use Rattle.std.specs.Prelude.{ℕ, ◌-◌, List, length, Option, None, IsSome, is_some, count_by, slice_index_or, slice_set, replicate, refl}
use Rattle.std.specs.Coded.{Coded, code_by, coded×, coded_ℕ, coded_list, coded_option}

-- how many items a frame has, what each item of a new frame is, and at each number the items of its frame, or `None` if the frame is free
pub record Region (T : Type 0) : Type 0 where
  pub width : ℕ
  pub fill : T
  pub frames : List (Option (List T))

-- a region is stored as the tuple of its fields
abbrev pub region_code : {T : Type 0} → Coded T → Coded (Region T)
region_code {T} code =
    code_by
    (ℕ × (T × List (Option (List T))))
    (coded× coded_ℕ (coded× code (coded_list (coded_option (coded_list code)))))
    (λ r. (r.width, (r.fill, r.frames)))
    (λ p. record { width = p.0; fill = p.1.0; frames = p.1.1 })
    (λ _. refl)

module _ {T : Type 0} where
  -- no frame is taken
  abbrev pub empty_region : ℕ → ℕ → T → Region T
  empty_region frames width fill = record { width = width; fill = fill; frames = replicate frames None }

  -- the items of a frame, if it is taken
  abbrev pub get : Region T → ℕ → Option (List T)
  get r frame = slice_index_or r.frames frame None

  -- the frame is taken
  abbrev pub HasFrame : Region T → ℕ → Type 0
  HasFrame r frame = IsSome (get r frame)

  -- how many frames are free: all of them less those that are taken
  abbrev pub free_frames : Region T → ℕ
  free_frames r = length r.frames - count_by is_some r.frames

  -- the region with these items in a frame, or without the frame; every other frame stays
  abbrev pub with_frame : Region T → ℕ → Option (List T) → Region T
  with_frame r frame items = record r { frames = slice_set r.frames frame items }
