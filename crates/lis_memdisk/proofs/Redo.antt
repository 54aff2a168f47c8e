-- Walking through a record up to a disk call.
use Rattle.std.proofs.Common.{◌≡◌, ℕ, ◌+◌, ◌<◌, ◌≤◌, Bool, true, false, List, [], ◌∷◌, length, get_or, drop, IsTrue, sym, ◌∙◌, ap, subst, arith, length-append}
use Rattle.std.specs.List.{list_all}
use Rattle.std.proofs.lemmas.Bool.{and_parts, leb-true, cond-true, cond-false}
use Rattle.std.proofs.lemmas.List.{drop_more}
use Rattle.lis_ports.proofs.Parts.{length-part}
use Rattle.lis_memdisk.specs.declared.event.Kind.{Kind}
use Rattle.lis_memdisk.specs.declared.event.Kind.TheVariants.{Write, Sync, Show}
use Rattle.lis_memdisk.specs.declared.event.Event.{Event}
use Rattle.lis_memdisk.specs.Changes.{Deed, Change, Medium, fresh, after, replay, state_at, had_happened, IsAt}
use Rattle.lis_memdisk.specs.Changes.Deed.{Writes, Syncs, Shows}
use Rattle.lis_memdisk.specs.Seen.{is_within}
use Rattle.lis_memdisk.specs.Event.{deed_of, change_of, changes_of, has_bytes, all_stored, spanned, shown_len}

-- what is left of the record leads from this state to the same ends
pub record Redoing (start given shown : List ℕ) (events : List Event) (call : ℕ) (rest : List Event) (state : Medium) : Type 0 where
  pub ends : state_at state call (changes_of given shown rest) ≡ state_at (fresh start) call (changes_of given shown events)
  pub whole : replay state (changes_of given shown rest) ≡ replay (fresh start) (changes_of given shown events)
  pub stored : IsTrue (all_stored (length given) (length shown) rest)
  pub within : IsTrue (list_all (λ c. is_within (length start) c.deed) (changes_of given shown rest))

-- one event of the record
pub record Turn (start given shown : List ℕ) (events : List Event) (call : ℕ) (rest : List Event) (e : Event) (state : Medium) : Type 0 where
  pub on : had_happened call (change_of given shown e) ≡ true → Redoing start given shown events call rest (after state (deed_of given shown e.kind))
  pub stop : had_happened call (change_of given shown e) ≡ false → state ≡ state_at (fresh start) call (changes_of given shown events)
  pub has : IsTrue (has_bytes (length given) (length shown) e.kind)
  pub within : IsTrue (is_within (length start) (deed_of given shown e.kind))

pub turn : (start given shown : List ℕ) (events : List Event) (call : ℕ) (e : Event) (rest : List Event) (state : Medium) → Redoing start given shown events call (e ∷ rest) state → Turn start given shown events call rest e state
turn start given shown events call e rest state so_far =
    let has = and_parts (has_bytes (length given) (length shown) e.kind) (all_stored (length given) (length shown) rest) so_far.stored in
    let fits = and_parts (is_within (length start) (deed_of given shown e.kind)) (list_all (λ c. is_within (length start) c.deed) (changes_of given shown rest)) so_far.within in
    record {
      on = λ had. record {
        ends = sym (cond-true (had_happened call (change_of given shown e)) (state_at (after state (deed_of given shown e.kind)) call (changes_of given shown rest)) state had) ∙ so_far.ends;
        whole = so_far.whole;
        stored = has.1;
        within = fits.1;
      };
      stop = λ had. sym (cond-false (had_happened call (change_of given shown e)) (state_at (after state (deed_of given shown e.kind)) call (changes_of given shown rest)) state had) ∙ so_far.ends;
      has = has.0;
      within = fits.0;
    }

-- the same at an index of the list of events
pub turn_at : (start given shown : List ℕ) (events items : List Event) (call k : ℕ) (d : Event) (state : Medium) → items ≡ events → k < length items → Redoing start given shown events call (drop k events) state → Turn start given shown events call (drop (k + 1) events) (get_or items k d) state
turn_at start given shown events items call k d state same lt so_far =
    turn start given shown events call (get_or items k d) (drop (k + 1) events) state
    (subst (λ rest. Redoing start given shown events call rest state)
    (ap (drop k) (sym same) ∙ (drop_more items k d lt ∙ ap (λ xs. get_or items k d ∷ drop (k + 1) xs) same)) so_far)

-- if an event had not happened, the walk stops
pub stopped_at : (start given shown : List ℕ) (events items : List Event) (call k : ℕ) (d : Event) (had : Bool) (state : Medium) → items ≡ events → k < length items → had ≡ had_happened call (change_of given shown (get_or items k d)) → had ≡ false → Redoing start given shown events call (drop k events) state → state ≡ state_at (fresh start) call (changes_of given shown events)
stopped_at start given shown events items call k d had state same lt is_had unhad so_far =
    (turn_at start given shown events items call k d state same lt so_far).stop (sym is_had ∙ unhad)

-- and otherwise it goes on
pub went_on : (start given shown : List ℕ) (events items : List Event) (call k : ℕ) (d : Event) (had : Bool) (state : Medium) → items ≡ events → k < length items → had ≡ had_happened call (change_of given shown (get_or items k d)) → had ≡ true → Redoing start given shown events call (drop k events) state → Redoing start given shown events call (drop (k + 1) events) (after state (deed_of given shown (get_or items k d).kind))
went_on start given shown events items call k d had state same lt is_had had_it so_far =
    (turn_at start given shown events items call k d state same lt so_far).on (sym is_had ∙ had_it)

-- what was shown never gets shorter
pub shown_grows : (s : Medium) (cs : List Change) → length s.shown ≤ length (replay s cs).shown
shown_grows s [] = omega arith
shown_grows s (c ∷ cs) = let later = shown_grows (after s c.deed) cs in let now = one s c.deed in omega arith
  where
    one : (s : Medium) (deed : Deed) → length s.shown ≤ length (after s deed).shown
    one s (Writes place bytes) = omega arith
    one s Syncs = omega arith
    one s (Shows piece) = omega (arith, length-append s.shown piece)

pub length-shown : (s : Medium) (given shown : List ℕ) (kind : Kind) → IsTrue (has_bytes (length given) (length shown) kind) → length (after s (deed_of given shown kind)).shown ≡ length s.shown + shown_len kind
length-shown s given shown (Write place span) has = omega arith
length-shown s given shown Sync has = omega arith
length-shown s given shown (Show span) has =
    length-append s.shown (spanned span shown) ∙ ap (λ n. length s.shown + n) (length-part span.from span.len shown (leb-true (span.from + span.len) (length shown) has))

pub counted_at : (start given shown : List ℕ) (events items : List Event) (call k : ℕ) (d : Event) (state : Medium) (n : ℕ) → items ≡ events → k < length items → n ≡ shown_len (get_or items k d).kind → Redoing start given shown events call (drop k events) state → length state.shown + n ≡ length (after state (deed_of given shown (get_or items k d).kind)).shown
counted_at start given shown events items call k d state n same lt is_n so_far =
    ap (λ m. length state.shown + m) is_n
    ∙ sym (length-shown state given shown (get_or items k d).kind (turn_at start given shown events items call k d state same lt so_far).has)

-- and it stays below what was shown in all
pub few_at : (start given shown : List ℕ) (events : List Event) (call : ℕ) (rest : List Event) (state : Medium) → (replay (fresh start) (changes_of given shown events)).shown ≡ shown → Redoing start given shown events call rest state → length state.shown ≤ length shown
few_at start given shown events call rest state all so_far =
    omega (arith, shown_grows state (changes_of given shown rest), ap (λ s. length s.shown) so_far.whole, ap length all)

pub at_same : (pick : ℕ) (s : Medium) (shown image bytes : List ℕ) (g h : List ℕ) (kind : Kind) → g ≡ h → IsAt pick (after s (deed_of g shown kind)) image bytes → IsAt pick (after s (deed_of h shown kind)) image bytes
at_same pick s shown image bytes g h kind same at = subst (λ given. IsAt pick (after s (deed_of given shown kind)) image bytes) same at
