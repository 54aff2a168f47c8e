-- How an image of these limits is divided, and how much of it is staged and placed before a commit.
use Rattle.std.specs.Prelude.{ℕ, ◌+◌, ◌==◌, if◌then◌else◌}
use Rattle.lis_limits.specs.declared.TheConstants.{MAX_STAGED, MAX_PLACED, V3_MAX_STAGED, V3_MAX_PLACED}
use Rattle.lis_journal.specs.declared.layout.Layout.{Layout}
use Rattle.lis_journal.specs.declared.layout.Capacity.{Capacity}
use Rattle.lis_journal.specs.Journal.{Shape}
use Rattle.lis_model.specs.declared.limits.Limits.{Limits}
use Rattle.lis_model.specs.Image.{record_blocks, set_blocks, image_blocks}

abbrev pub image_layout : Limits → Layout
image_layout limits = record { records = record_blocks limits; blocks = image_blocks limits }

-- The most blocks of one record. In version 3 they are the sets of all files, and at most 893 other blocks.
unfoldable pub most_staged : Limits → ℕ
most_staged limits = if limits.version == 3 then set_blocks limits + V3_MAX_STAGED else MAX_STAGED

-- the most blocks of a content, with its index blocks
unfoldable pub most_placed : Limits → ℕ
most_placed limits = if limits.version == 3 then V3_MAX_PLACED else MAX_PLACED

abbrev pub image_capacity : Limits → Capacity
image_capacity limits = record { staged = most_staged limits; placed = most_placed limits }

abbrev pub image_shape : Limits → Shape
image_shape limits = record { layout = image_layout limits; capacity = image_capacity limits }
