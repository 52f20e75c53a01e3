-- Entries that are listed, one after the other.
use Rattle.std.proofs.Common.{◌≡◌, ℕ, ◌+◌, ◌<◌, Bool, true, false, ◌&&◌, not, cond, List, [], ◌∷◌, ◌++◌, length, Option, None, Some, refl, sym, ◌∙◌, ap, subst, arith, append_assoc, zero-add}
use Rattle.std.specs.List.{filter, flat_map}
use Rattle.std.specs.String.{string_bytes}
use Rattle.std.proofs.lemmas.List.{append-nil, length-append}
use Rattle.std.proofs.lemmas.List.Elements.{filter-append}
use Rattle.std.proofs.lemmas.Grind.{flat_map-append}
use Rattle.aria_host.specs.State.{State}
use Rattle.aria_host.specs.Calls.{Unchanged}
use Rattle.aria_host.proofs.Moments.{looks}
use Rattle.aria_page.specs.declared.lsn.Lsn.{Lsn}
use Rattle.aria_record.specs.Logged.{lsn_at_place}
use Rattle.aria_record.specs.declared.record.Record.{Record}
use Rattle.aria_log.specs.declared.step.Step.TheVariants.{Group, Rest, End}
use Rattle.aria_log.specs.declared.log.Log.{Log as LogValue}
use Rattle.aria_log.specs.declared.next.TheConstants.{MAX_ENTRIES}
use Rattle.aria_log.specs.Log.{place}
use Rattle.aria_log.specs.Pieces.{LogFiles, log_files}
use Rattle.aria_log.specs.Reading.{Entry, Standing, Whole, Void, next_place, StandsAt}
use Rattle.aria_log.specs.Stepping.{IsStep}
use Rattle.aria_log.proofs.Walking.{IsWalked, walk_begins, walk_stands, walk_next, walk_few, stands_same}
use Rattle.aria_readlog.specs.declared.choice.Choice.{Choice}
use Rattle.aria_readlog.specs.declared.listing.Listing.{Listing}
use Rattle.aria_readlog.specs.Choice.{is_asked, is_whole, entry_lines, found_lines, is_within, asked, all_lines, group_count, rest_count, total_line}
use Rattle.aria_readlog.specs.Line.{last_line}
use Rattle.aria_readlog.specs.Telling.{Shows}
use Rattle.aria_readlog.specs.Listing.{Lists, Tells, Adds, Takes, Steps}
use Rattle.aria_readlog.proofs.Telling.{OnlyNow, still, shows_none, shows_then, shows_part, shows_after}

-- ---- lines and counts of entries behind entries

pub all_lines-append : (choice : Choice) (xs ys : List Entry) → all_lines choice (xs ++ ys) ≡ all_lines choice xs ++ all_lines choice ys
unfolding all_lines
all_lines-append choice xs ys = by choice.silent
  where
    by : (b : Bool) → cond b [] (flat_map entry_lines (asked choice (xs ++ ys))) ≡ cond b [] (flat_map entry_lines (asked choice xs)) ++ cond b [] (flat_map entry_lines (asked choice ys))
    by true = refl
    by false = ap (flat_map entry_lines) (filter-append (is_asked choice) xs ys) ∙ flat_map-append entry_lines (asked choice xs) (asked choice ys)

filtered-append : (p q : Entry → Bool) (xs ys : List Entry) → length (filter p (filter q (xs ++ ys))) ≡ length (filter p (filter q xs)) + length (filter p (filter q ys))
filtered-append p q xs ys = ap (λ (l : List Entry). length (filter p l)) (filter-append q xs ys)
    ∙ ap (λ (l : List Entry). length l) (filter-append p (filter q xs) (filter q ys)) ∙ length-append (filter p (filter q xs)) (filter p (filter q ys))

pub group_count-append : (choice : Choice) (xs ys : List Entry) → group_count (asked choice (xs ++ ys)) ≡ group_count (asked choice xs) + group_count (asked choice ys)
unfolding group_count
group_count-append choice xs ys = filtered-append (λ e. is_whole e.found) (is_asked choice) xs ys

pub rest_count-append : (choice : Choice) (xs ys : List Entry) → rest_count (asked choice (xs ++ ys)) ≡ rest_count (asked choice xs) + rest_count (asked choice ys)
unfolding rest_count
rest_count-append choice xs ys = filtered-append (λ e. not (is_whole e.found)) (is_asked choice) xs ys

-- ---- one entry

one_lines : (choice : Choice) (entry : Entry) → all_lines choice (entry ∷ []) ≡ cond (is_asked choice entry && not choice.silent) (entry_lines entry) []
unfolding all_lines
one_lines choice entry = by choice.silent (is_asked choice entry)
  where
    by : (silent here : Bool) → cond silent [] (flat_map entry_lines (cond here (entry ∷ []) [])) ≡ cond (here && not silent) (entry_lines entry) []
    by true true = refl
    by true false = refl
    by false true = append-nil (entry_lines entry)
    by false false = refl

-- one entry is counted or not
count_one : (p : Entry → Bool) (choice : Choice) (entry : Entry) → length (filter p (asked choice (entry ∷ []))) ≡ cond (is_asked choice entry) (cond (p entry) 1 0) 0
count_one p choice entry = by (is_asked choice entry)
  where
    one : (b : Bool) → length (cond b (entry ∷ []) []) ≡ cond b 1 0
    one true = refl
    one false = refl

    by : (here : Bool) → length (filter p (cond here (entry ∷ []) [])) ≡ cond here (cond (p entry) 1 0) 0
    by true = one (p entry)
    by false = refl

one_group : (choice : Choice) (entry : Entry) → group_count (asked choice (entry ∷ [])) ≡ cond (is_asked choice entry) (cond (is_whole entry.found) 1 0) 0
unfolding group_count
one_group choice entry = count_one (λ e. is_whole e.found) choice entry

one_rest : (choice : Choice) (entry : Entry) → rest_count (asked choice (entry ∷ [])) ≡ cond (is_asked choice entry) (cond (not (is_whole entry.found)) 1 0) 0
unfolding rest_count
one_rest choice entry = count_one (λ e. not (is_whole e.found)) choice entry

-- one that isn't of a kind isn't counted
same_count : (n : ℕ) (here : Bool) → n ≡ n + cond here 0 0
same_count n true = omega arith
same_count n false = omega arith

pub lists_none : (old new : Listing) → new ≡ old → Lists [] old new
unfolding all_lines group_count rest_count
lists_none old new same = subst (λ (l : Listing). Lists [] old l) (sym same) (record {
  text = none old.choice.silent;
  choice = refl;
  groups = omega arith;
  rests = omega arith;
})
  where
    none : (b : Bool) → string_bytes old.text ≡ string_bytes old.text ++ cond b [] []
    none true = sym (append-nil (string_bytes old.text))
    none false = sym (append-nil (string_bytes old.text))

-- an entry that stands at this number is added
lists_one : (old new : Listing) (entry : Entry) (lsn : Lsn) (found : Standing) → lsn ≡ lsn_at_place entry.at → entry.found ≡ found
    → string_bytes new.text ≡ string_bytes old.text ++ cond (is_within old.choice lsn && not old.choice.silent) (found_lines lsn found) []
    → new.groups ≡ old.groups + cond (is_within old.choice lsn) (cond (is_whole found) 1 0) 0
    → new.rests ≡ old.rests + cond (is_within old.choice lsn) (cond (not (is_whole found)) 1 0) 0
    → new.choice ≡ old.choice → Lists (entry ∷ []) old new
lists_one old new entry lsn found at is text groups rests choice =
    let found_is = sym is in
    record {
      text = text ∙ ap (λ (l : List ℕ). string_bytes old.text ++ l)
          (ap (λ (x : Lsn). cond (is_within old.choice x && not old.choice.silent) (found_lines x found) []) at
          ∙ ap (λ (x : Standing). cond (is_asked old.choice entry && not old.choice.silent) (found_lines (lsn_at_place entry.at) x) []) found_is
          ∙ sym (one_lines old.choice entry));
      choice = choice;
      groups = groups ∙ ap (λ (n : ℕ). old.groups + n)
          (ap (λ (x : Lsn). cond (is_within old.choice x) (cond (is_whole found) 1 0) 0) at
          ∙ ap (λ (x : Standing). cond (is_asked old.choice entry) (cond (is_whole x) 1 0) 0) found_is
          ∙ sym (one_group old.choice entry));
      rests = rests ∙ ap (λ (n : ℕ). old.rests + n)
          (ap (λ (x : Lsn). cond (is_within old.choice x) (cond (not (is_whole found)) 1 0) 0) at
          ∙ ap (λ (x : Standing). cond (is_asked old.choice entry) (cond (not (is_whole x)) 1 0) 0) found_is
          ∙ sym (one_rest old.choice entry));
    }

-- nothing more stands in the log
pub takes_end : (old : Listing) (end : ℕ) (more : List Entry) → IsStep end more End → Takes end more None old old
takes_end old end [] step = lists_none old old refl
takes_end old end (entry ∷ more) step = absurd step

-- a group is added
pub takes_group : (old new : Listing) (end : ℕ) (more : List Entry) (at after : Lsn) (group : List Record) → IsStep end more (Group at group after)
    → string_bytes new.text ≡ string_bytes old.text ++ cond (is_within old.choice at && not old.choice.silent) (found_lines at (Whole group)) []
    → new.groups ≡ old.groups + cond (is_within old.choice at) 1 0 → new.rests ≡ old.rests → new.choice ≡ old.choice → Takes end more (Some after) old new
takes_group old new end [] at after group step text groups rests choice = absurd step
takes_group old new end (entry ∷ more) at after group step text groups rests choice = (
  step.after_is,
  lists_one old new entry at (Whole group) step.at_is step.found_is text groups
      (rests ∙ same_count old.rests (is_within old.choice at)) choice,
)

-- a void rest is added
pub takes_rest : (old new : Listing) (end : ℕ) (more : List Entry) (at after : Lsn) (bytes : ℕ) → IsStep end more (Rest at bytes after)
    → string_bytes new.text ≡ string_bytes old.text ++ cond (is_within old.choice at && not old.choice.silent) (found_lines at (Void bytes)) []
    → new.rests ≡ old.rests + cond (is_within old.choice at) 1 0 → new.groups ≡ old.groups → new.choice ≡ old.choice → Takes end more (Some after) old new
takes_rest old new end [] at after bytes step text rests groups choice = absurd step
takes_rest old new end (entry ∷ more) at after bytes step text rests groups choice = (
  step.after_is,
  lists_one old new entry at (Void bytes) step.at_is step.found_is text
      (groups ∙ same_count old.groups (is_within old.choice at)) rests choice,
)

-- ---- what is added is told, or a part of it

-- entries were added behind a call that only looks, and then a part of the text was told
adds_told : (entries : List Entry) (old mid new : Listing) (s0 s1 s2 : State) → OnlyNow s0 → Unchanged s0 s1 → Lists entries old mid → Tells mid new s1 s2 → Adds entries old new s0 s2
adds_told entries old mid new s0 s1 s2 only same lists tells = record {
  told = tells.told;
  shows = shows_then s0 s1 s2 [] tells.told true (shows_none s0 s1 [] true only (looks s0 s1 same) (λ done. refl)) tells.shows;
  text = sym lists.text ∙ tells.text;
  choice = tells.choice ∙ lists.choice;
  groups = tells.groups ∙ lists.groups;
  rests = tells.rests ∙ lists.rests;
}

pub steps_told : (end : ℕ) (more : List Entry) (after : Option Lsn) (old mid new : Listing) (s0 s1 s2 : State) → OnlyNow s0 → Unchanged s0 s1 → Takes end more after old mid → Tells mid new s1 s2
    → Steps end more after old new s0 s2
steps_told end [] None old mid new s0 s1 s2 only same takes tells = adds_told [] old mid new s0 s1 s2 only same takes tells
steps_told end [] (Some after) old mid new s0 s1 s2 only same takes tells = absurd takes
steps_told end (entry ∷ more) None old mid new s0 s1 s2 only same takes tells = absurd takes
steps_told end (entry ∷ more) (Some after) old mid new s0 s1 s2 only same takes tells =
    (takes.0, adds_told (entry ∷ []) old mid new s0 s1 s2 only same takes.1 tells)

-- nothing was told of the next entries
pub part_none : (old : List ℕ) (s0 s1 : State) → OnlyNow s0 → Unchanged s0 s1 → Shows old s0 s1 false
part_none old s0 s1 only same = shows_none s0 s1 old false only (looks s0 s1 same) (λ done. absurd (let e : false ≡ true = done in (cc)))

-- an entry was added, and a part of the text told
pub part_told : (end : ℕ) (more : List Entry) (after : Option Lsn) (old mid : Listing) (s0 s1 s2 : State) → OnlyNow s0 → Unchanged s0 s1 → Takes end more after old mid
    → Shows (string_bytes mid.text) s1 s2 false → Shows (string_bytes old.text ++ all_lines old.choice more) s0 s2 false
part_told end more after old mid s0 s1 s2 only same takes shows =
    let (entries, rest, whole, lists) = front more after takes in
    shows_part s0 s2 (string_bytes mid.text) (all_lines old.choice rest) (string_bytes old.text ++ all_lines old.choice more) false
    (ap (λ (l : List ℕ). l ++ all_lines old.choice rest) lists.text ∙ append_assoc (string_bytes old.text) (all_lines old.choice entries) (all_lines old.choice rest)
    ∙ ap (λ (l : List ℕ). string_bytes old.text ++ l) (sym (all_lines-append old.choice entries rest) ∙ ap (all_lines old.choice) whole))
    (shows_then s0 s1 s2 [] (string_bytes mid.text) false (shows_none s0 s1 [] true only (looks s0 s1 same) (λ done. refl)) shows)
  where
    front : (more : List Entry) (after : Option Lsn) → Takes end more after old mid → (entries : List Entry) × (rest : List Entry) × (entries ++ rest ≡ more) × Lists entries old mid
    front [] None takes = ([], [], refl, takes)
    front [] (Some after) takes = absurd takes
    front (entry ∷ more) None takes = absurd takes
    front (entry ∷ more) (Some after) takes = (entry ∷ [], more, refl, takes.1)

-- ---- entries behind entries

pub adds_none : (l : Listing) (s : State) → OnlyNow s → Adds [] l l s s
adds_none l s only = let none = lists_none l l refl in record {
  told = [];
  shows = shows_none s s [] true only (still s) (λ done. refl);
  text = sym none.text;
  choice = refl;
  groups = none.groups;
  rests = none.rests;
}

-- the lines of entries, and those of what stands behind them
lines_then : (xs ys : List Entry) (old mid : Listing) (s0 s1 : State) (adds : Adds xs old mid s0 s1)
    → string_bytes old.text ++ all_lines old.choice (xs ++ ys) ≡ adds.told ++ (string_bytes mid.text ++ all_lines mid.choice ys)
lines_then xs ys old mid s0 s1 adds = ap (λ (l : List ℕ). string_bytes old.text ++ l) (all_lines-append old.choice xs ys)
    ∙ sym (append_assoc (string_bytes old.text) (all_lines old.choice xs) (all_lines old.choice ys))
    ∙ ap (λ (l : List ℕ). l ++ all_lines old.choice ys) adds.text
    ∙ append_assoc adds.told (string_bytes mid.text) (all_lines old.choice ys)
    ∙ ap (λ (c : Choice). adds.told ++ (string_bytes mid.text ++ all_lines c ys)) (sym adds.choice)

pub adds_more : (xs ys : List Entry) (old mid new : Listing) (s0 s1 s2 : State) → Adds xs old mid s0 s1 → Adds ys mid new s1 s2 → Adds (xs ++ ys) old new s0 s2
adds_more xs ys old mid new s0 s1 s2 first second = record {
  told = first.told ++ second.told;
  shows = shows_then s0 s1 s2 first.told second.told true first.shows second.shows;
  text = lines_then xs ys old mid s0 s1 first ∙ ap (λ (l : List ℕ). first.told ++ l) second.text ∙ sym (append_assoc first.told second.told (string_bytes new.text));
  choice = second.choice ∙ first.choice;
  groups = second.groups ∙ ap (λ (n : ℕ). n + group_count (asked mid.choice ys)) first.groups
      ∙ ap (λ (c : Choice). old.groups + group_count (asked old.choice xs) + group_count (asked c ys)) first.choice
      ∙ (let e : old.groups + group_count (asked old.choice xs) + group_count (asked old.choice ys) ≡ old.groups + group_count (asked old.choice (xs ++ ys)) = omega (arith, group_count-append old.choice xs ys) in e);
  rests = second.rests ∙ ap (λ (n : ℕ). n + rest_count (asked mid.choice ys)) first.rests
      ∙ ap (λ (c : Choice). old.rests + rest_count (asked old.choice xs) + rest_count (asked c ys)) first.choice
      ∙ (let e : old.rests + rest_count (asked old.choice xs) + rest_count (asked old.choice ys) ≡ old.rests + rest_count (asked old.choice (xs ++ ys)) = omega (arith, rest_count-append old.choice xs ys) in e);
}

-- entries were listed, and then a part of the rest was told
pub part_more : (xs ys all : List Entry) (old mid : Listing) (s0 s1 s2 : State) → all ≡ xs ++ ys → Adds xs old mid s0 s1
    → Shows (string_bytes mid.text ++ all_lines mid.choice ys) s1 s2 false → Shows (string_bytes old.text ++ all_lines old.choice all) s0 s2 false
part_more xs ys all old mid s0 s1 s2 is adds shows =
    subst (λ (l : List ℕ). Shows l s0 s2 false) (sym (ap (λ (es : List Entry). string_bytes old.text ++ all_lines old.choice es) is ∙ lines_then xs ys old mid s0 s1 adds))
    (shows_then s0 s1 s2 adds.told (string_bytes mid.text ++ all_lines mid.choice ys) false adds.shows shows)

-- what was listed of the entries of a log so far
pub record IsListed (log : LogValue) (at : Lsn) (count : ℕ) (all : List Entry) (old new : Listing) (s0 s1 : State) : Type 0 where
  pub before : List Entry
  pub left : List Entry
  pub walked : IsWalked log at count all before left
  pub adds : Adds before old new s0 s1

pub listed_none : (log : LogValue) (files : LogFiles) (here : ℕ) (at : Lsn) (all : List Entry) (l : Listing) (s : State) → OnlyNow s → StandsAt log files here [] all → at ≡ lsn_at_place here
    → IsListed log at 0 all l l s s
listed_none log files here at all l s only stands at_is =
    record { before = []; left = all; walked = walk_begins log files here at [] all stands at_is; adds = adds_none l s only }

-- the rest stands in the log
pub left_stands : (log : LogValue) (here : ℕ) (at : Lsn) (count : ℕ) (all : List Entry) (old new : Listing) (s0 s1 : State) → StandsAt log (log_files s0.folder) here [] all
    → (listed : IsListed log at count all old new s0 s1) → StandsAt log (log_files s1.folder) (next_place (place log) listed.left) listed.before listed.left
left_stands log here at count all old new s0 s1 stands listed =
    stands_same log s0.folder s1.folder (next_place (place log) listed.left) listed.before listed.left listed.adds.shows.folder
    (walk_stands log (log_files s0.folder) here at count [] all listed.before listed.left stands listed.walked)

pub listed_more : (log : LogValue) (at after : Lsn) (count : ℕ) (all : List Entry) (old mid new : Listing) (s0 s1 s2 : State) → (listed : IsListed log at count all old mid s0 s1)
    → Steps (place log) listed.left (Some after) mid new s1 s2 → IsListed log after (count + 1) all old new s0 s2
listed_more log at after count all old mid new s0 s1 s2 listed steps = by listed.left listed.walked steps
  where
    by : (left : List Entry) → IsWalked log at count all listed.before left → Steps (place log) left (Some after) mid new s1 s2 → IsListed log after (count + 1) all old new s0 s2
    by [] walked steps = absurd steps
    by (entry ∷ left) walked steps = record {
      before = listed.before ++ (entry ∷ []);
      left = left;
      walked = walk_next log at after count all listed.before entry left walked steps.0;
      adds = adds_more listed.before (entry ∷ []) old mid new s0 s1 s2 listed.adds steps.1;
    }

pub listed_all : (log : LogValue) (at : Lsn) (count : ℕ) (all : List Entry) (old mid new : Listing) (s0 s1 s2 : State) → (listed : IsListed log at count all old mid s0 s1)
    → Steps (place log) listed.left None mid new s1 s2 → Adds all old new s0 s2
listed_all log at count all old mid new s0 s1 s2 listed steps = by listed.left listed.walked steps
  where
    by : (left : List Entry) → IsWalked log at count all listed.before left → Steps (place log) left None mid new s1 s2 → Adds all old new s0 s2
    by [] walked steps = subst (λ (es : List Entry). Adds es old new s0 s2) (sym walked.whole) (adds_more listed.before [] old mid new s0 s1 s2 listed.adds steps)
    by (entry ∷ left) walked steps = absurd steps

-- not so many can be listed
pub listed_few : (log : LogValue) (files : LogFiles) (here : ℕ) (at : Lsn) (count : ℕ) (all : List Entry) (old new : Listing) (s0 s1 : State) → StandsAt log files here [] all
    → IsListed log at count all old new s0 s1 → count < MAX_ENTRIES
listed_few log files here at count all old new s0 s1 stands listed = walk_few log files here at count [] all listed.before listed.left stands listed.walked

-- ---- a whole log

-- entries that are listed behind a call that only looks
pub adds_after : (entries : List Entry) (old new : Listing) (s0 s1 s2 : State) → OnlyNow s0 → Unchanged s0 s1 → Adds entries old new s1 s2 → Adds entries old new s0 s2
adds_after entries old new s0 s1 s2 only same adds = record {
  told = adds.told;
  shows = shows_after s0 s1 s2 adds.told true only (looks s0 s1 same) adds.shows;
  text = adds.text;
  choice = adds.choice;
  groups = adds.groups;
  rests = adds.rests;
}

-- a listing of nothing yet
pub record IsNew (listing : Listing) (choice : Choice) : Type 0 where
  pub choice_is : listing.choice ≡ choice
  pub text : string_bytes listing.text ≡ []
  pub groups : listing.groups ≡ 0
  pub rests : listing.rests ≡ 0

-- its lines are those of the entries
new_lines : (listing : Listing) (choice : Choice) (entries : List Entry) → IsNew listing choice → string_bytes listing.text ++ all_lines listing.choice entries ≡ all_lines choice entries
new_lines listing choice entries new = ap (λ (l : List ℕ). l ++ all_lines listing.choice entries) new.text ∙ ap (λ (c : Choice). all_lines c entries) new.choice_is

-- what is told of a log, and its last line
told_lines : (listing : Listing) (choice : Choice) (entries : List Entry) (now : Listing) (s0 s1 : State) (new : IsNew listing choice) (adds : Adds entries listing now s0 s1) → adds.told ++ string_bytes now.text ≡ all_lines choice entries
told_lines listing choice entries now s0 s1 new adds = sym adds.text ∙ new_lines listing choice entries new

last_is : (listing : Listing) (choice : Choice) (entries : List Entry) (now : Listing) (s0 s1 : State) → IsNew listing choice → Adds entries listing now s0 s1 → last_line now.groups now.rests ≡ total_line choice entries
unfolding total_line
last_is listing choice entries now s0 s1 new adds =
    let groups : now.groups ≡ group_count (asked choice entries) = adds.groups ∙ ap (λ (n : ℕ). n + group_count (asked listing.choice entries)) new.groups
    ∙ zero-add (group_count (asked listing.choice entries)) ∙ ap (λ (c : Choice). group_count (asked c entries)) new.choice_is in
    let rests : now.rests ≡ rest_count (asked choice entries) = adds.rests ∙ ap (λ (n : ℕ). n + rest_count (asked listing.choice entries)) new.rests
    ∙ zero-add (rest_count (asked listing.choice entries)) ∙ ap (λ (c : Choice). rest_count (asked c entries)) new.choice_is in
    ap (λ (n : ℕ). last_line n now.rests) groups ∙ ap (λ (n : ℕ). last_line (group_count (asked choice entries)) n) rests

-- a log that wasn't listed to its end
pub show_part : (listing : Listing) (choice : Choice) (entries : List Entry) (s0 s1 : State) → IsNew listing choice
    → Shows (string_bytes listing.text ++ all_lines listing.choice entries) s0 s1 false → Shows (all_lines choice entries ++ total_line choice entries) s0 s1 false
show_part listing choice entries s0 s1 new shows =
    shows_part s0 s1 (string_bytes listing.text ++ all_lines listing.choice entries) (total_line choice entries) (all_lines choice entries ++ total_line choice entries) false
    (ap (λ (l : List ℕ). l ++ total_line choice entries) (new_lines listing choice entries new)) shows

-- one that was, and its last line
pub show_whole : (listing : Listing) (choice : Choice) (entries : List Entry) (now : Listing) (s0 s1 s2 : State) (done : Bool) → IsNew listing choice → Adds entries listing now s0 s1
    → Shows (string_bytes now.text ++ last_line now.groups now.rests) s1 s2 done → Shows (all_lines choice entries ++ total_line choice entries) s0 s2 done
show_whole listing choice entries now s0 s1 s2 done new adds shows =
    let last = last_line now.groups now.rests in
    subst (λ (l : List ℕ). Shows l s0 s2 done)
    (sym (append_assoc adds.told (string_bytes now.text) last) ∙ ap (λ (l : List ℕ). l ++ last) (told_lines listing choice entries now s0 s1 new adds)
    ∙ ap (λ (l : List ℕ). all_lines choice entries ++ l) (last_is listing choice entries now s0 s1 new adds))
    (shows_then s0 s1 s2 adds.told (string_bytes now.text ++ last) done adds.shows shows)

-- and one without its last line
pub show_lines : (listing : Listing) (choice : Choice) (entries : List Entry) (now : Listing) (s0 s1 s2 : State) → IsNew listing choice → Adds entries listing now s0 s1
    → Shows (string_bytes now.text) s1 s2 true → Shows (all_lines choice entries) s0 s2 true
show_lines listing choice entries now s0 s1 s2 new adds shows =
    subst (λ (l : List ℕ). Shows l s0 s2 true) (told_lines listing choice entries now s0 s1 new adds)
    (shows_then s0 s1 s2 adds.told (string_bytes now.text) true adds.shows shows)

-- the text that was held was told, and the last line wasn't
pub held_told : (old new : Listing) (last : List ℕ) (s0 s1 : State) → Tells old new s0 s1 → Shows (string_bytes old.text ++ last) s0 s1 false
held_told old new last s0 s1 tells =
    shows_part s0 s1 tells.told (string_bytes new.text ++ last) (string_bytes old.text ++ last) true
    (sym (append_assoc tells.told (string_bytes new.text) last) ∙ ap (λ (l : List ℕ). l ++ last) (sym tells.text)) tells.shows
