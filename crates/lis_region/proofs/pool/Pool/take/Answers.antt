use Rattle.std.proofs.Common.{◌≡◌, ◌<◌, ◌++◌, ◌∷◌, [], true, false, replicate, ap, length, set, length-append, length-set, sym, ◌∙◌, refl, arith}
use Rattle.std.proofs.lemmas.List.{length-replicate, nil_from_length, get_or_past}
use Rattle.lis_region.proofs.Pools.{last_is_free, within, sound_taken, sound_more, none_at_free, free_are, grown, overwritten, length-overwritten}
use Rattle.lis_region.proofs.Made.{frames_written, frames_more, length-frames_of}
use Rattle.lis_region.specs.Made.{frames_of}
use Rattle.lis_region.proofs.pool.Pool.take.Goals as goal

pub slice_mut-requires-clause-in_bounds : goal.slice_mut-requires-clause-in_bounds
slice_mut-requires-clause-in_bounds g c =
    let s = c.self.inside in
    let free = last_is_free s.width s.frames s.items.items s.taken.items s.given.items c.pop.new.self.items c.in-Some.number c.in-Some.ensures.items c.self.invariant.0 in
    let there = within s.width s.frames s.items.items s.taken.items s.given.items c.in-Some.number c.start_of-start.result c.start_of-start.ensures.place free.0 c.self.invariant.0 in
    omega (arith, there, s.items.ok.0)

pub index_mut-requires : goal.index_mut-requires
index_mut-requires g c =
    let s = c.self.inside in
    let free = last_is_free s.width s.frames s.items.items s.taken.items s.given.items c.pop.new.self.items c.in-Some.number c.in-Some.ensures.items c.self.invariant.0 in
    omega (arith, free.0, s.taken.ok.0)

pub invariant_of-self : goal.invariant_of-self
invariant_of-self g c =
    let s = c.self.inside in
    let rest = c.pop.new.self.items in
    let n = c.in-Some.number in
    let sound = c.self.invariant.0 in
    let free = last_is_free s.width s.frames s.items.items s.taken.items s.given.items rest n c.in-Some.ensures.items sound in
    let at = c.start_of-start.result in
    let ws = c.set_all.new.items in
    let place = c.start_of-start.ensures.place in
    let there = within s.width s.frames s.items.items s.taken.items s.given.items n at place free.0 sound in
    let len : length c.slice_mut.result.now ≡ s.width = omega (arith, c.slice_mut.ensures.len) in
    let all : ws ≡ replicate s.width s.fill = c.set_all.ensures ∙ rw len refl in
    let wide : length ws ≡ s.width = ap length all ∙ length-replicate s.width s.fill in
    let now = overwritten s.items at s.width ws wide there in
    let same = length-overwritten s.items.items at s.width ws wide there in
    let new = sound_taken s.width s.frames s.items.items s.taken.items s.given.items rest n _ c.in-Some.ensures.items same sound in
    let room = c.self.invariant.1 in (
      rw now new,
      record { items_fit = room.items_fit; taken_fit = room.taken_fit; given_fit = omega (arith, room.given_fit, c.pop.ensures.capacity) },
    )

pub returns-in-Some-clause-none : goal.returns-in-Some-clause-none
returns-in-Some-clause-none g c =
    let s = c.self.inside in
    let rest = c.pop.new.self.items in
    let n = c.in-Some.number in
    let sound = c.self.invariant.0 in
    let free = last_is_free s.width s.frames s.items.items s.taken.items s.given.items rest n c.in-Some.ensures.items sound in
    let old = free_are s.width s.frames s.items.items s.taken.items s.given.items sound in
    rw (← c.self.view_is) (λ e. absurd cc, λ e. absurd (omega (arith, old, ap length c.in-Some.ensures.items, length-append rest (n ∷ []))))

pub returns-in-Some-clause-new_number : goal.returns-in-Some-clause-new_number
returns-in-Some-clause-new_number g c =
    let s = c.self.inside in
    let rest = c.pop.new.self.items in
    let n = c.in-Some.number in
    let sound = c.self.invariant.0 in
    let free = last_is_free s.width s.frames s.items.items s.taken.items s.given.items rest n c.in-Some.ensures.items sound in
    rw (← c.self.view_is) (omega (arith, free.0, sound.made, length-frames_of s.width s.frames s.taken.items s.items.items sound.made))

pub returns-in-Some-clause-was_free : goal.returns-in-Some-clause-was_free
returns-in-Some-clause-was_free g c =
    let s = c.self.inside in
    let rest = c.pop.new.self.items in
    let n = c.in-Some.number in
    let sound = c.self.invariant.0 in
    let free = last_is_free s.width s.frames s.items.items s.taken.items s.given.items rest n c.in-Some.ensures.items sound in
    rw (← c.self.view_is) (none_at_free s.width s.frames s.items.items s.taken.items s.given.items n free.1)

pub returns-in-Some-clause-taken : goal.returns-in-Some-clause-taken
returns-in-Some-clause-taken g c =
    let s = c.self.inside in
    let rest = c.pop.new.self.items in
    let n = c.in-Some.number in
    let sound = c.self.invariant.0 in
    let free = last_is_free s.width s.frames s.items.items s.taken.items s.given.items rest n c.in-Some.ensures.items sound in
    let at = c.start_of-start.result in
    let ws = c.set_all.new.items in
    let place = c.start_of-start.ensures.place in
    let there = within s.width s.frames s.items.items s.taken.items s.given.items n at place free.0 sound in
    let len : length c.slice_mut.result.now ≡ s.width = omega (arith, c.slice_mut.ensures.len) in
    let all : ws ≡ replicate s.width s.fill = c.set_all.ensures ∙ rw len refl in
    let wide : length ws ≡ s.width = ap length all ∙ length-replicate s.width s.fill in
    let now = overwritten s.items at s.width ws wide there in
    let frames = ap (λ xs. frames_of s.width s.frames (set s.taken.items n true) xs) now ∙ frames_written s.width s.frames s.taken.items s.items.items at ws n place free.0 sound.whole wide in
    rw (← c.self.view_is) (ap (λ fs. record { width = s.width; fill = s.fill; frames = fs }) (frames ∙ rw all refl))

pub returns-in-Some-clause-fewer : goal.returns-in-Some-clause-fewer
returns-in-Some-clause-fewer g c =
    let s = c.self.inside in
    let rest = c.pop.new.self.items in
    let n = c.in-Some.number in
    let sound = c.self.invariant.0 in
    let free = last_is_free s.width s.frames s.items.items s.taken.items s.given.items rest n c.in-Some.ensures.items sound in
    let at = c.start_of-start.result in
    let ws = c.set_all.new.items in
    let place = c.start_of-start.ensures.place in
    let there = within s.width s.frames s.items.items s.taken.items s.given.items n at place free.0 sound in
    let len : length c.slice_mut.result.now ≡ s.width = omega (arith, c.slice_mut.ensures.len) in
    let all : ws ≡ replicate s.width s.fill = c.set_all.ensures ∙ rw len refl in
    let wide : length ws ≡ s.width = ap length all ∙ length-replicate s.width s.fill in
    let now = overwritten s.items at s.width ws wide there in
    let same = length-overwritten s.items.items at s.width ws wide there in
    let new = sound_taken s.width s.frames s.items.items s.taken.items s.given.items rest n _ c.in-Some.ensures.items same sound in
    let old = free_are s.width s.frames s.items.items s.taken.items s.given.items sound in
    let after = free_are s.width s.frames _ (set s.taken.items n true) rest new in
    rw (← c.self.view_is) (rw now (omega (arith, old, after, ap length c.in-Some.ensures.items, length-append rest (n ∷ []), length-set s.taken.items n true)))

pub returns-then-number-self-clause-none : goal.returns-then-number-self-clause-none
returns-then-number-self-clause-none g c =
    let s = c.self.inside in
    let old = free_are s.width s.frames s.items.items s.taken.items s.given.items c.self.invariant.0 in
    rw (← c.self.view_is) (λ _. omega (arith, old, s.given.ok.0, s.taken.ok.0, c.in_default.ensures.cases, c.len-number.ensures, c.if-number-self.true), λ _. refl)

pub invariant_of-self-2 : goal.invariant_of-self-2
invariant_of-self-2 g c =
    let s = c.self.inside in
    let sound = c.self.invariant.0 in
    let none : c.pop.new.self.items ≡ s.given.items = nil_from_length c.pop.new.self.items (omega (arith, c.pop.new.self.ok.0, c.in_default.ensures.cases)) ∙ sym (nil_from_length s.given.items (omega (arith, s.given.ok.0, c.in_default.ensures.cases))) in
    let lt : length s.taken.items < s.frames = omega (arith, sound.made, s.taken.ok.0, c.len-number.ensures, c.if-number-self.false) in
    let items : c.resize.new.self.items ≡ s.items.items ++ replicate s.width s.fill = c.in-Ok.ensures.items ∙ grown s.items.items _ s.items.len s.width s.fill s.items.ok.0 (omega (arith, c.len.ensures)) in
    let taken : c.push.new.self.items ≡ s.taken.items ++ true ∷ [] = c.in-Ok-push.ensures.items in
    let room = c.self.invariant.1 in (
      rw (items, taken, none) (sound_more s.width s.frames s.items.items s.taken.items s.given.items (replicate s.width s.fill) lt (length-replicate s.width s.fill) sound),
      record { items_fit = omega (arith, room.items_fit, c.resize.ensures.capacity); taken_fit = omega (arith, room.taken_fit, c.push.ensures.capacity); given_fit = omega (arith, room.given_fit, c.pop.ensures.capacity) },
    )

pub returns-clause-new_number : goal.returns-clause-new_number
returns-clause-new_number g c =
    let s = c.self.inside in
    let made = c.self.invariant.0.made in
    rw (← c.self.view_is) (omega (arith, made, s.taken.ok.0, c.len-number.ensures, c.if-number-self.false, length-frames_of s.width s.frames s.taken.items s.items.items made))

pub returns-clause-was_free : goal.returns-clause-was_free
returns-clause-was_free g c =
    let s = c.self.inside in
    rw (← c.self.view_is) (none_at_free s.width s.frames s.items.items s.taken.items s.given.items c.len-number.result (get_or_past s.taken.items c.len-number.result false (omega (arith, s.taken.ok.0, c.len-number.ensures))))

pub returns-clause-taken : goal.returns-clause-taken
returns-clause-taken g c =
    let s = c.self.inside in
    let sound = c.self.invariant.0 in
    let lt : length s.taken.items < s.frames = omega (arith, sound.made, s.taken.ok.0, c.len-number.ensures, c.if-number-self.false) in
    let items : c.resize.new.self.items ≡ s.items.items ++ replicate s.width s.fill = c.in-Ok.ensures.items ∙ grown s.items.items _ s.items.len s.width s.fill s.items.ok.0 (omega (arith, c.len.ensures)) in
    let taken : c.push.new.self.items ≡ s.taken.items ++ true ∷ [] = c.in-Ok-push.ensures.items in
    let number : c.len-number.result ≡ length s.taken.items = omega (arith, s.taken.ok.0, c.len-number.ensures) in
    let frames = frames_more s.width s.frames s.taken.items s.items.items (replicate s.width s.fill) lt sound.whole (length-replicate s.width s.fill) in
    rw (← c.self.view_is, number) (ap (λ fs. record { width = s.width; fill = s.fill; frames = fs }) (rw (items, taken) frames))

pub returns-clause-fewer : goal.returns-clause-fewer
returns-clause-fewer g c =
    let s = c.self.inside in
    let sound = c.self.invariant.0 in
    let lt : length s.taken.items < s.frames = omega (arith, sound.made, s.taken.ok.0, c.len-number.ensures, c.if-number-self.false) in
    let items : c.resize.new.self.items ≡ s.items.items ++ replicate s.width s.fill = c.in-Ok.ensures.items ∙ grown s.items.items _ s.items.len s.width s.fill s.items.ok.0 (omega (arith, c.len.ensures)) in
    let taken : c.push.new.self.items ≡ s.taken.items ++ true ∷ [] = c.in-Ok-push.ensures.items in
    let old = free_are s.width s.frames s.items.items s.taken.items s.given.items sound in
    let new = sound_more s.width s.frames s.items.items s.taken.items s.given.items (replicate s.width s.fill) lt (length-replicate s.width s.fill) sound in
    let after = free_are s.width s.frames _ (s.taken.items ++ true ∷ []) s.given.items new in
    rw (← c.self.view_is) (rw (items, taken) (omega (arith, old, after, lt, length-append s.taken.items (true ∷ []))))
