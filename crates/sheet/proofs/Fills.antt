-- The promises of whole texts: a fill fits, moves and stays, and the fills make the whole. Assumes nothing.
use Rattle.std.specs.Prelude.{Ok}
use mathlib.Core.Path.{◌≡◌, refl, sym, ap, ◌∙◌, subst}
use Prim.Native.Nat.{ℕ, zero, suc, ◌+◌, ◌-◌, ◌<◌, ◌≤◌}
use native.Mathlib.Nat.{le_refl, le_trans}
use native.Mathlib.Omega.{arith}
use mathlib.Core.Bool.{Bool, true, false}
use mathlib.Core.List.{List, [], ◌++◌, append_assoc}
use lib.ListN.{length, take, drop, length-append}
use lib.Seq.{take_at}
use lib.Dec.{ltb, leb}
use borrow.Author.Tests.{le-leb, leb-true, ltb-true, ltb-false}
use Rattle.buffers.specs.Over.{over}
use Rattle.lines.specs.Lines.{least_room, has_room}
use Rattle.sheet.specs.Sheet.{Step, line, end, refuse}
use Rattle.sheet.specs.Kinds.{room_of, text_at}
use Rattle.sheet.specs.Fill.{Fill, up_to, after, fill_by, fill, filled_if, left_if, filled_as, left_as}
use Rattle.sheet.specs.Promises.{Followed, stepped, ended, FillsFit, FillsMove, FillsEnd, Fills, finished, onward, FillsMakeTheWhole, FillsFinish}
use Rattle.sheet.specs.declared.text.Kind.{Kind}
use Rattle.sheet.proofs.Texts.{room_least, text_end, text_due, texts_fit, texts_move}
use Rattle.sheet.proofs.Whole.{steps_make_the_whole}
use Rattle.sheet.proofs.Filling.{fill_end, fill_text}
use Rattle.elementary.proofs.Results.{ok_pair}

-- ---- what lies between a place and the end of a fill from there: whatever follows the fill's end, the fill's texts come before it
Leads : Kind → List ℕ → ℕ → ℕ → Fill → Type 0
Leads k s at room (up_to t next) = (at ≤ next) × (at ≤ length s → next ≤ length s) × (length t ≤ room) × ((u : List ℕ) → Followed k s next u → Followed k s at (t ++ u))

leads_none : (k : Kind) (s : List ℕ) (at room : ℕ) → Leads k s at room (up_to [] at)
unfolding Leads
leads_none k s at room = (le_refl at, λ h. h, omega arith, λ u f. f)

leads_after : (k : Kind) (s : List ℕ) (at room : ℕ) (t : List ℕ) (next : ℕ) → text_at k s at ≡ line t next → length t ≤ room
    → (f : Fill) → Leads k s next (room - length t) f → Leads k s at room (after t f)
unfolding Leads after
leads_after k s at room t next e h (up_to v place) f =
    let m = texts_move k s at t next e in (
      omega (arith, m.0, f.0),
      λ g. f.1 m.1,
      rw (length-append t v) (omega (arith, f.2)),
      λ u g. rw (append_assoc t v u) (stepped e (f.3 u g)),
    )

leads_by : (j : ℕ) (k : Kind) (s : List ℕ) (at room : ℕ) → Leads k s at room (fill_by j (leb (room_of k) room) (text_at k s at) k s at room)
unfolding fill_by
leads_by zero k s at room = leads_none k s at room
leads_by (suc j) k s at room = go (leb (room_of k) room) (leb-true (room_of k) room) (text_at k s at) refl (leads_by j k s)
  where
    go : (b : Bool) → (b ≡ true → room_of k ≤ room) → (x : Step) → text_at k s at ≡ x
        → ((next rest : ℕ) → Leads k s next rest (fill_by j (leb (room_of k) rest) (text_at k s next) k s next rest)) → Leads k s at room (fill_by (suc j) b x k s at room)
    go false r x e f = leads_none k s at room
    go true r end e f = leads_none k s at room
    go true r (refuse n) e f = leads_none k s at room
    go true r (line t next) e f = leads_after k s at room t next e (omega (arith, r refl, texts_fit k s at t next e)) _ (f next (room - length t))

leads : (k : Kind) (s : List ℕ) (at room : ℕ) → Leads k s at room (fill k s at room)
unfolding fill
leads k s at room = leads_by (length s) k s at room

-- ---- from the reply to the texts
told : (l m : Bool) (f : Fill) (n next : ℕ) → filled_if l m f ≡ Ok (n, next) → (t : List ℕ) × (l ≡ true) × (m ≡ true) × (f ≡ up_to t next) × (n ≡ length t)
unfolding filled_if
told false m f n next e = let z : ◌≡◌ {A = ℕ} 0 1 = cc in absurd (omega arith)
told true false f n next e = let z : ◌≡◌ {A = ℕ} 0 1 = cc in absurd (omega arith)
told true true (up_to t p) n next e = let (i, z) = ok_pair e in (t, refl, refl, ap (up_to t) z, sym i)

module _ (k : Kind) (s : List ℕ) (at : ℕ) (b : List ℕ) (n next : ℕ) (e : filled_as k s at b ≡ Ok (n, next)) where
  w : (t : List ℕ) × (has_room b ≡ true) × (leb (room_of k) (length b) ≡ true) × (fill k s at (length b) ≡ up_to t next) × (n ≡ length t)
  w = told (has_room b) (leb (room_of k) (length b)) (fill k s at (length b)) n next e

  led : Leads k s at (length b) (up_to w.0 next)
  led = subst (Leads k s at (length b)) w.3 (leads k s at (length b))

  handed : take n (left_as k s at b) ≡ w.0
  unfolding left_if over
  handed = rw (w.1, w.2, w.3) (take_at w.0 (drop (length w.0) b) n (sym w.4))

  had_room : room_of k ≤ length b
  had_room = leb-true (room_of k) (length b) w.2

pub fills_fit : FillsFit
unfolding Leads
fills_fit k s at b n next e = rw (w k s at b n next e).4 (led k s at b n next e).2

further : (k : Kind) (s : List ℕ) (at p room : ℕ) (t v : List ℕ) (next : ℕ) (f : Fill) → Leads k s p room f → after t f ≡ up_to v next → at < p → at < next
unfolding Leads after
further k s at p room t v next (up_to u place) l e h = let z : place ≡ next = cc in omega (arith, l.0)

pub fills_move : FillsMove
unfolding Leads
fills_move k s at b n next e h =
    let v = w k s at b n next e in
    let d = text_due k s at h in
    let m = texts_move k s at d.0 d.1 d.2 in
    let f = fill_text k s at (length b) d.0 d.1 (had_room k s at b n next e) d.2 in
    let rest = length b - length d.0 in
    (further k s at d.1 rest d.0 v.0 next (fill k s d.1 rest) (leads k s d.1 rest) (sym f ∙ v.3) m.0, (led k s at b n next e).1 (omega arith))

pub fills_end : FillsEnd
fills_end k s at b n next e h =
    let v = w k s at b n next e in
    let f = fill_end k s at (length b) (text_end k s at h) in
    let t : v.0 ≡ [] = cc in
    (v.4 ∙ ap length t, cc)

-- ---- the fills make the whole
followed : {k : Kind} {s : List ℕ} {at : ℕ} {t : List ℕ} → Fills k s at t → Followed k s at t
unfolding Leads
followed {k} {s} {at} (finished h) = ended (text_end k s at h)
followed {k} {s} {at} (onward {next = next} {u = u} b n h e f) =
    subst (λ (v : List ℕ). Followed k s at (v ++ u)) (sym (handed k s at b n next e)) ((led k s at b n next e).3 u (followed f))

-- texts that follow each other from a place on are the same
one_way : {k : Kind} {s : List ℕ} {at : ℕ} {t u : List ℕ} → Followed k s at t → Followed k s at u → t ≡ u
one_way (ended e) (ended f) = refl
one_way (ended e) (stepped f g) = let z : ◌≡◌ {A = ℕ} 0 1 = cc in absurd (omega arith)
one_way (stepped e g) (ended f) = let z : ◌≡◌ {A = ℕ} 0 1 = cc in absurd (omega arith)
one_way {k} {s} (stepped {next = p} {t = t} {u = u} e g) (stepped {next = q} {t = v} {u = x} f h) =
    let y : t ≡ v = cc in
    let z : q ≡ p = cc in
    let r = one_way g (subst (λ (n : ℕ). Followed k s n x) z h) in
    rw (y, r)

pub fills_make_the_whole : FillsMakeTheWhole
fills_make_the_whole k s t f = one_way (followed f) (steps_make_the_whole k s)

-- ---- with any buffer that has the room
some_fill : (l m : Bool) (f : Fill) → l ≡ true → m ≡ true → (n : ℕ) × (next : ℕ) × (filled_if l m f ≡ Ok (n, next))
unfolding filled_if
some_fill true true (up_to t next) d e = (length t, next, refl)
some_fill false m (up_to t next) d e = let z : ◌≡◌ {A = ℕ} 0 1 = cc in absurd (omega arith)
some_fill true false (up_to t next) d e = let z : ◌≡◌ {A = ℕ} 0 1 = cc in absurd (omega arith)

pub fill_there : (k : Kind) (s : List ℕ) (at : ℕ) (b : List ℕ) → room_of k ≤ length b → (n : ℕ) × (next : ℕ) × (filled_as k s at b ≡ Ok (n, next))
fill_there k s at b r =
    some_fill (has_room b) (leb (room_of k) (length b)) (fill k s at (length b)) (le-leb least_room (length b) (le_trans (room_least k) r)) (le-leb (room_of k) (length b) r)

finish : (j : ℕ) (k : Kind) (s b : List ℕ) (at : ℕ) → room_of k ≤ length b → length s ≤ j + at → (t : List ℕ) × Fills k s at t
finish zero k s b at r h = ([], finished {at = at} (omega arith))
finish (suc j) k s b at r h = go (ltb at (length s)) (ltb-true at (length s)) (ltb-false at (length s)) (λ next m. finish j k s b next r (omega arith))
  where
    go : (m : Bool) → (m ≡ true → at < length s) → (m ≡ false → length s ≤ at) → ((next : ℕ) → at < next → (t : List ℕ) × Fills k s next t) → (t : List ℕ) × Fills k s at t
    go false f g rest = ([], finished (g refl))
    go true f g rest =
        let d = fill_there k s at b r in
        let u = rest d.1 (fills_move k s at b d.0 d.1 d.2 (f refl)).0 in
        (_, onward b d.0 (f refl) d.2 u.1)

pub fills_finish : FillsFinish
fills_finish k s b r = let f = finish (length s) k s b 0 r (omega arith) in subst (Fills k s 0) (fills_make_the_whole k s f.0 f.1) f.1

-- ---- what follows from a place on begins with a fill from there, and goes on from its end; from the end of the sheet on it is nothing
pub fill_first : (k : Kind) (s : List ℕ) (at : ℕ) (b : List ℕ) (n next : ℕ) (v : List ℕ) → filled_as k s at b ≡ Ok (n, next) → Followed k s at v
    → (u : List ℕ) × (v ≡ take n (left_as k s at b) ++ u) × Followed k s next u
unfolding Leads
fill_first k s at b n next v e f =
    let r = finish (length s) k s b next (had_room k s at b n next e) (omega arith) in
    let g = followed r.1 in
    (r.0, rw (handed k s at b n next e) (one_way f ((led k s at b n next e).3 r.0 g)), g)

pub nothing_left : (k : Kind) (s : List ℕ) (at : ℕ) (v : List ℕ) → length s ≤ at → Followed k s at v → v ≡ []
nothing_left k s at v h f = one_way f (ended (text_end k s at h))
