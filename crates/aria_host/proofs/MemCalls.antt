-- What a call of the host in memory means for what the host stands for.
use Rattle.std.proofs.Common.{◌≡◌, ◌⊎◌, inl, inr, ⊎_elim, ℕ, ◌≤◌, true, false, List, [], ◌∷◌, ◌++◌, length, take, drop, reverse, Bool, cond, Option, None, Some, is_some, unwrap_or, refl, sym, ◌∙◌, ap, subst, arith}
use Rattle.std.proofs.lemmas.List.{reverse-append, append-nil}
use Rattle.std.proofs.Math.Seq.{take-length, drop-append_seam, drop-length, take-nil}
use Rattle.std.proofs.lemmas.Grind.{common_steps}
use Rattle.std.specs.Option.{option_map}
use Rattle.std.proofs.lemmas.Bool.{cases_Bool}
use Rattle.aria_host.specs.declared.host.Stream.{Stream}
use Rattle.aria_host.specs.declared.host.Stream.TheVariants.{Out, Err}
use Rattle.aria_host.specs.declared.memory.effect.Effect.{Effect}
use Rattle.aria_host.specs.declared.memory.effect.Effect.TheVariants.{Wrote, Cut, Created, Removed, Set, Told, Synced}
use Rattle.aria_host.specs.declared.file_name.FileName.{FileName}
use Rattle.aria_host.specs.declared.memory.mem_host.MemHost.{MemHost}
use Rattle.aria_host.specs.Calls.{told_on, other_stream, Tells, TellsNothing, Unchanged, HaveNames, Narrows, Changes, Syncs}
use Rattle.aria_host.specs.Folder.{same_file, put_page, with_file}
use Rattle.aria_host.specs.State.{Folder, told}
use Rattle.aria_host.proofs.Files.{same_file-true, still_there}
use Rattle.aria_host.specs.Effect.{no_files, reads, MayLeave, told_before, Earlier, Since}
use Rattle.aria_host.specs.MemHost.{mem_state, base_of, past_of, Adds, AddsChange, SameRecord}

-- told bytes before a call that told some
before_told : (stream : Stream) (bytes out : List ℕ) → told_before (Told stream (length bytes)) (out ++ told_on Out stream bytes) ≡ out
before_told Out bytes out = grind (arith, common_steps)
before_told Err bytes out = append-nil out

-- what a crash during or after such a call might have left
told_since : (base : Folder) (past : List Effect) (stream : Stream) (bytes out : List ℕ) (t : ℕ) (c : Folder) (b : List ℕ) → t ≤ length past
    → Since base (Told stream (length bytes) ∷ past) (out ++ told_on Out stream bytes) t c b
    → Since base past out t c b ⊎ (MayLeave base past c × (n : ℕ) × (b ≡ out ++ take n (told_on Out stream bytes)))
told_since base past stream bytes out t c b le (inl (now, leaves, is)) =
    let added = told_on Out stream bytes in
    inr (leaves, length added, is ∙ ap (λ (l : List ℕ). out ++ l) (sym (take-length added)))
told_since base past stream bytes out t c b le (inr (inl (now, leaves, n, is))) =
    let added = told_on Out stream bytes in
    let before = before_told stream bytes out in
    let front : told_before (Told stream (length bytes)) (out ++ added) ++ take n (drop (length (told_before (Told stream (length bytes)) (out ++ added))) (out ++ added)) ≡ out ++ take n (drop (length out) (out ++ added)) =
    ap (λ (l : List ℕ). l ++ take n (drop (length l) (out ++ added))) before in
    inr (leaves, n, is ∙ front ∙ ap (λ (l : List ℕ). out ++ take n l) (drop-append_seam out added))
told_since base past stream bytes out t c b le (inr (inr earlier)) =
    inl (inr (subst (λ (l : List ℕ). Earlier base past l t c b) (before_told stream bytes out) earlier))

-- what a crash before such a call might have left, it still might have left
told_keeps : (base : Folder) (past : List Effect) (stream : Stream) (bytes out : List ℕ) (t : ℕ) (c : Folder) (b : List ℕ) → t ≤ length past
    → Since base past out t c b → Since base (Told stream (length bytes) ∷ past) (out ++ told_on Out stream bytes) t c b
told_keeps base past stream bytes out t c b le (inl (now, leaves, is)) =
    inr (inl (le, leaves, 0, is ∙ sym (before_told stream bytes out) ∙ sym (append-nil (told_before (Told stream (length bytes)) (out ++ told_on Out stream bytes)))))
told_keeps base past stream bytes out t c b le (inr earlier) =
    inr (inr (subst (λ (l : List ℕ). Earlier base past l t c b) (sym (before_told stream bytes out)) earlier))

-- one more change in the record, newest first
newest : (changes past : List Effect) (change : Effect) → changes ≡ past ++ change ∷ [] → reverse changes ≡ change ∷ reverse past
newest changes past change is = ap reverse is ∙ reverse-append past (change ∷ [])

-- the bytes stand on the stream that they were told on
told_more : (stream : Stream) (bytes : List ℕ) (old new : MemHost) → Adds stream bytes old new → told stream (mem_state new) ≡ told stream (mem_state old) ++ bytes
told_more Out bytes old new adds = adds.out
told_more Err bytes old new adds = adds.err

-- and on no other
told_less : (stream : Stream) (bytes : List ℕ) (old new : MemHost) → Adds stream bytes old new → told (other_stream stream) (mem_state new) ≡ told (other_stream stream) (mem_state old)
told_less Out bytes old new adds = adds.err ∙ append-nil old.err.items
told_less Err bytes old new adds = adds.out ∙ append-nil old.out.items

-- the record of a host that made one more change
pub record Made (change : Effect) (added : List ℕ) (old new : MemHost) : Type 0 where
  pub base : base_of new ≡ base_of old
  pub past : past_of new ≡ change ∷ past_of old
  pub out : new.out.items ≡ old.out.items ++ added

-- what holds of the record after that change holds of the new one
along : (change : Effect) (added : List ℕ) (old new : MemHost) → Made change added old new → (P : Folder → List Effect → List ℕ → Type 0)
    → P (base_of old) (change ∷ past_of old) (old.out.items ++ added) → P (base_of new) (past_of new) new.out.items
along change added old new made P holds =
    subst (λ (f : Folder). P f (past_of new) new.out.items) (sym made.base)
    (subst (λ (l : List Effect). P (base_of old) l new.out.items) (sym made.past)
    (subst (λ (o : List ℕ). P (base_of old) (change ∷ past_of old) o) (sym made.out) holds))

-- and the other way round
back : (change : Effect) (added : List ℕ) (old new : MemHost) → Made change added old new → (P : Folder → List Effect → List ℕ → Type 0)
    → P (base_of new) (past_of new) new.out.items → P (base_of old) (change ∷ past_of old) (old.out.items ++ added)
back change added old new made P holds =
    subst (λ (o : List ℕ). P (base_of old) (change ∷ past_of old) o) made.out
    (subst (λ (l : List Effect). P (base_of old) l new.out.items) made.past
    (subst (λ (f : Folder). P f (past_of new) new.out.items) made.base holds))

-- telling some bytes is one more change
told_made : (stream : Stream) (bytes : List ℕ) (old new : MemHost) → Adds stream bytes old new → Made (Told stream (length bytes)) (told_on Out stream bytes) old new
told_made stream bytes old new adds = record {
  base = ap (λ (l : List Effect). reads no_files (reverse l)) adds.base;
  past = newest new.changes.items old.changes.items (Told stream (length bytes)) adds.changes;
  out = adds.out;
}

-- telling some bytes is what the trait says of it
pub tells_done : (stream : Stream) (bytes : List ℕ) (old new : MemHost) → Adds stream bytes old new → Tells stream bytes (mem_state old) (mem_state new) true
tells_done stream bytes old new adds =
    let change = Told stream (length bytes) in
    let added = told_on Out stream bytes in
    let made = told_made stream bytes old new adds in
    record {
      whole = λ _. told_more stream bytes old new adds;
      part = (length bytes, told_more stream bytes old new adds ∙ ap (λ (l : List ℕ). told stream (mem_state old) ++ l) (sym (take-length bytes)));
      other = told_less stream bytes old new adds;
      folder = along change added old new made (λ f l o. reads f l ≡ reads (base_of old) (past_of old)) refl;
      images = record {
        no_more = λ c leaves. back change added old new made (λ f l o. MayLeave f l c) leaves;
        no_fewer = λ c leaves. along change added old new made (λ f l o. MayLeave f l c) leaves;
      };
      time = record {
        later = along change added old new made (λ f l o. length (past_of old) ≤ length l) (omega arith);
        nothing_else = λ t c b le left.
            ⊎_elim (λ was. inl was) (λ now. inr (along change added old new made (λ f l o. MayLeave f l c) now.0, now.1, now.2))
            (told_since (base_of old) (past_of old) stream bytes old.out.items t c b le (back change added old new made (λ f l o. Since f l o t c b) left));
        keeps = λ t c b le left.
            along change added old new made (λ f l o. Since f l o t c b) (told_keeps (base_of old) (past_of old) stream bytes old.out.items t c b le left);
      };
    }

-- what a crash during or after a call that tells nothing might have left
changed_since : (change : Effect) (base : Folder) (past : List Effect) (out : List ℕ) (t : ℕ) (c : Folder) (b : List ℕ) → told_before change out ≡ out
    → t ≤ length past → Since base (change ∷ past) out t c b → Since base past out t c b ⊎ (MayLeave base (change ∷ past) c × (n : ℕ) × (b ≡ out ++ take n []))
changed_since change base past out t c b same le (inl (now, leaves, is)) = inr (leaves, 0, is ∙ sym (append-nil out))
changed_since change base past out t c b same le (inr (inl (now, leaves, n, is))) =
    let whole : told_before change out ++ take n (drop (length (told_before change out)) out) ≡ out ++ take n (drop (length out) out) =
    ap (λ (l : List ℕ). l ++ take n (drop (length l) out)) same in
    let none : take n (drop (length out) out) ≡ [] = ap (λ (l : List ℕ). take n l) (drop-length out) ∙ take-nil n in
    inl (inl (le, leaves, is ∙ whole ∙ ap (λ (l : List ℕ). out ++ l) none ∙ append-nil out))
changed_since change base past out t c b same le (inr (inr earlier)) =
    inl (inr (subst (λ (l : List ℕ). Earlier base past l t c b) same earlier))

-- what a crash before such a call might have left, it still might have left
changed_keeps : (change : Effect) (base : Folder) (past : List Effect) (out : List ℕ) (t : ℕ) (c : Folder) (b : List ℕ) → told_before change out ≡ out
    → t ≤ length past → Since base past out t c b → Since base (change ∷ past) out t c b
changed_keeps change base past out t c b same le (inl (now, leaves, is)) =
    inr (inl (le, leaves, 0, is ∙ sym same ∙ sym (append-nil (told_before change out))))
changed_keeps change base past out t c b same le (inr earlier) =
    inr (inr (subst (λ (l : List ℕ). Earlier base past l t c b) (sym same) earlier))

-- such a call is one more change
change_made : (change : Effect) (old new : MemHost) → AddsChange change old new → Made change [] old new
change_made change old new adds = record {
  base = ap (λ (l : List Effect). reads no_files (reverse l)) adds.base;
  past = newest new.changes.items old.changes.items change adds.changes;
  out = adds.out ∙ sym (append-nil old.out.items);
}

-- it tells nothing
change_tells : (change : Effect) (old new : MemHost) → AddsChange change old new → ((out : List ℕ) → told_before change out ≡ out) → TellsNothing (mem_state old) (mem_state new)
change_tells change old new adds untold =
    let made = change_made change old new adds in
    let out = old.out.items in
    record {
      out = adds.out;
      err = adds.err;
      time = record {
        later = along change [] old new made (λ f l o. length (past_of old) ≤ length l) (omega arith);
        nothing_else = λ t c b le left.
            ⊎_elim (λ was. inl was) (λ now. inr (along change [] old new made (λ f l o. MayLeave f l c) now.0, now.1, now.2))
            (changed_since change (base_of old) (past_of old) out t c b (untold out) le
            (subst (λ (o : List ℕ). Since (base_of old) (change ∷ past_of old) o t c b) (append-nil out)
            (back change [] old new made (λ f l o. Since f l o t c b) left)));
        keeps = λ t c b le left.
            along change [] old new made (λ f l o. Since f l o t c b)
            (subst (λ (o : List ℕ). Since (base_of old) (change ∷ past_of old) o t c b) (sym (append-nil out))
            (changed_keeps change (base_of old) (past_of old) out t c b (untold out) le left));
      };
    }

-- a change that was made is what the trait says of it
pub changed : (change : Effect) (f : Folder → Folder) (step : Folder → Folder → Type 0) (old new : MemHost) → AddsChange change old new
    → ((out : List ℕ) → told_before change out ≡ out)
    → ((base : Folder) (past : List Effect) → reads base (change ∷ past) ≡ f (reads base past))
    → ((base : Folder) (past : List Effect) (c : Folder) → MayLeave base (change ∷ past) c → (d : Folder) × MayLeave base past d × step d c)
    → Changes f step (mem_state old) (mem_state new) true
changed change f step old new adds untold read leave =
    let made = change_made change old new adds in
    let here : (mem_state new).folder ≡ f (mem_state old).folder = along change [] old new made (λ g l o. reads g l ≡ f (mem_state old).folder) (read (base_of old) (past_of old)) in
    record {
      whole = λ _. here;
      either = inr here;
      images = λ c leaves. leave (base_of old) (past_of old) c (back change [] old new made (λ g l o. MayLeave g l c) leaves);
      tells = change_tells change old new adds untold;
    }

-- a file that was brought to the disk is what the trait says of it
pub synced : (file : FileName) (old new : MemHost) → AddsChange (Synced file) old new → Syncs file (mem_state old) (mem_state new) true
synced file old new adds =
    let change = Synced file in
    let made = change_made change old new adds in
    record {
      durable = λ _ c leaves there. (back change [] old new made (λ g l o. MayLeave g l c) leaves).1;
      no_more = λ c leaves. (back change [] old new made (λ g l o. MayLeave g l c) leaves).0;
      folder = along change [] old new made (λ g l o. reads g l ≡ (mem_state old).folder) refl;
      tells = change_tells change old new adds (λ _. refl);
    }

-- what holds of a record holds of one that is the same
kept : (old new : MemHost) → SameRecord old new → (P : Folder → List Effect → List ℕ → Type 0) → P (base_of old) (past_of old) old.out.items
    → P (base_of new) (past_of new) new.out.items
kept old new same P holds =
    subst (λ (f : Folder). P f (past_of new) new.out.items) (sym (ap (λ (l : List Effect). reads no_files (reverse l)) same.base))
    (subst (λ (l : List Effect). P (base_of old) l new.out.items) (sym (ap reverse same.changes))
    (subst (λ (o : List ℕ). P (base_of old) (past_of old) o) (sym same.out) holds))

-- the same record, the other way round
turned : (old new : MemHost) → SameRecord old new → SameRecord new old
turned old new same = record { base = sym same.base; changes = sym same.changes; out = sym same.out; err = sym same.err }

-- a call that changes no record tells nothing
same_tells : (old new : MemHost) → SameRecord old new → TellsNothing (mem_state old) (mem_state new)
same_tells old new same = record {
  out = same.out;
  err = same.err;
  time = record {
    later = kept old new same (λ f l o. length (past_of old) ≤ length l) (omega arith);
    nothing_else = λ t c b le left. inl (kept new old (turned old new same) (λ f l o. Since f l o t c b) left);
    keeps = λ t c b le left. kept old new same (λ f l o. Since f l o t c b) left;
  };
}

-- a call that changes no record only looks
pub unchanged : (old new : MemHost) → SameRecord old new → Unchanged (mem_state old) (mem_state new)
unchanged old new same = record {
  folder = kept old new same (λ f l o. reads f l ≡ (mem_state old).folder) refl;
  images = record {
    no_more = λ c leaves. kept new old (turned old new same) (λ f l o. MayLeave f l c) leaves;
    no_fewer = λ c leaves. kept old new same (λ f l o. MayLeave f l c) leaves;
  };
  tells = same_tells old new same;
}

-- the names of a folder with a file as said, where those of the folder are known
named_with : (g f : FileName) (now was : Option (List (List ℕ))) (d r : Folder) → is_some now ≡ is_some was → is_some (d f) ≡ is_some (r f)
    → is_some (with_file g now d f) ≡ is_some (with_file g was r f)
named_with g f now was d r here there = elim (cases_Bool (same_file g f)) [
  | inl same ↦ ap (λ (b : Bool). is_some (cond b now (d f))) same ∙ here ∙ sym (ap (λ (b : Bool). is_some (cond b was (r f))) same)
  | inr other ↦ ap (λ (b : Bool). is_some (cond b now (d f))) other ∙ there ∙ sym (ap (λ (b : Bool). is_some (cond b was (r f))) other)
]

-- the names of a folder with a file changed
named_kept : (g f : FileName) (F G : List (List ℕ) → List (List ℕ)) (d r : Folder) → is_some (d g) ≡ is_some (r g) → is_some (d f) ≡ is_some (r f)
    → is_some (with_file g (option_map F (d g)) d f) ≡ is_some (with_file g (option_map G (r g)) r f)
named_kept g f F G d r here there =
    named_with g f (option_map F (d g)) (option_map G (r g)) d r (still_there F (d g) ∙ here ∙ sym (still_there G (r g))) there

-- the names of a folder stay where a file is changed
same_names : (g f : FileName) (F : List (List ℕ) → List (List ℕ)) (r : Folder) → is_some (with_file g (option_map F (r g)) r f) ≡ is_some (r f)
same_names g f F r = elim (cases_Bool (same_file g f)) [
  | inl same ↦
      ap (λ (b : Bool). is_some (cond b (option_map F (r g)) (r f))) same ∙ still_there F (r g) ∙ ap (λ (h : FileName). is_some (r h)) (same_file-true g f same)
  | inr other ↦ ap (λ (b : Bool). is_some (cond b (option_map F (r g)) (r f))) other
]

-- an image has the names of the folder as it reads
names_kept : (base : Folder) (past : List Effect) (c : Folder) → MayLeave base past c → (f : FileName) → is_some (c f) ≡ is_some (reads base past f)
names_kept base [] c is f = ap (λ (d : Folder). is_some (d f)) is
names_kept base (Wrote g at page ∷ past) c (d, leaves, inl lost) f =
    ap (λ (e : Folder). is_some (e f)) lost ∙ names_kept base past d leaves f ∙ sym (same_names g f (put_page at page) (reads base past))
names_kept base (Wrote g at page ∷ past) c (d, leaves, inr (inl kept)) f =
    ap (λ (e : Folder). is_some (e f)) kept ∙ named_kept g f (put_page at page) (put_page at page) d (reads base past) (names_kept base past d leaves g) (names_kept base past d leaves f)
names_kept base (Wrote g at page ∷ past) c (d, leaves, inr (inr (log, torn, long, sums, is))) f =
    ap (λ (e : Folder). is_some (e f)) is ∙ named_kept g f (put_page at torn) (put_page at page) d (reads base past) (names_kept base past d leaves g) (names_kept base past d leaves f)
names_kept base (Cut g n ∷ past) c (d, leaves, inl lost) f =
    ap (λ (e : Folder). is_some (e f)) lost ∙ names_kept base past d leaves f ∙ sym (same_names g f (take n) (reads base past))
names_kept base (Cut g n ∷ past) c (d, leaves, inr kept) f =
    ap (λ (e : Folder). is_some (e f)) kept ∙ named_kept g f (take n) (take n) d (reads base past) (names_kept base past d leaves g) (names_kept base past d leaves f)
names_kept base (Created g ∷ past) c (d, leaves, inl made) f =
    ap (λ (e : Folder). is_some (e f)) made ∙ named_with g f (Some []) (Some []) d (reads base past) refl (names_kept base past d leaves f)
names_kept base (Created g ∷ past) c (d, leaves, inr (not_done, is)) f = absurd (cc)
names_kept base (Removed g ∷ past) c (d, leaves, inl made) f =
    ap (λ (e : Folder). is_some (e f)) made ∙ named_with g f None None d (reads base past) refl (names_kept base past d leaves f)
names_kept base (Removed g ∷ past) c (d, leaves, inr (not_done, is)) f = absurd (cc)
names_kept base (Synced g ∷ past) c (leaves, is) f = names_kept base past c leaves f
names_kept base (Set g at page ∷ past) c (d, leaves, is) f =
    ap (λ (e : Folder). is_some (e f)) is
    ∙ named_with g f (Some (put_page at page (unwrap_or (d g) []))) (Some (put_page at page (unwrap_or (reads base past g) []))) d (reads base past) refl (names_kept base past d leaves f)
names_kept base (Told stream n ∷ past) c leaves f = names_kept base past c leaves f

-- at each moment the host in memory has its names on the disk
pub mem_names : (host : MemHost) → HaveNames (mem_state host)
mem_names host c leaves f form = names_kept (base_of host) (past_of host) c leaves f

-- listing names changes nothing there
pub mem_narrows : (old new : MemHost) → SameRecord old new → Narrows (mem_state old) (mem_state new)
mem_narrows old new same = record {
  folder = (unchanged old new same).folder;
  no_more = (unchanged old new same).images.no_more;
  tells = same_tells old new same;
}

-- a change that was not made is what the trait says of it
pub not_changed : (f : Folder → Folder) (step : Folder → Folder → Type 0) (old new : MemHost) → SameRecord old new → ((c : Folder) → step c c)
    → Changes f step (mem_state old) (mem_state new) false
not_changed f step old new same stays = record {
  whole = λ done. absurd (cc);
  either = inl (unchanged old new same).folder;
  images = λ c leaves. (c, (unchanged old new same).images.no_more c leaves, stays c);
  tells = same_tells old new same;
}

-- and so is a sync that was not made
pub not_synced : (file : FileName) (old new : MemHost) → SameRecord old new → Syncs file (mem_state old) (mem_state new) false
not_synced file old new same = record {
  durable = λ done. absurd (cc);
  no_more = (unchanged old new same).images.no_more;
  folder = (unchanged old new same).folder;
  tells = same_tells old new same;
}

-- a call that changed no record, after one that didn't either
pub same_twice : (old mid new : MemHost) → SameRecord old mid → SameRecord mid new → SameRecord old new
same_twice old mid new first second = record {
  base = second.base ∙ first.base;
  changes = second.changes ∙ first.changes;
  out = second.out ∙ first.out;
  err = second.err ∙ first.err;
}
