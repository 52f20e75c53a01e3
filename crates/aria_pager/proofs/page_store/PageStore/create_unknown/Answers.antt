use Rattle.std.proofs.Common.{◌≡◌, ◌∙◌, ◌∷◌, [], ◌++◌, ◌<◌, ◌≤◌, ℕ, Bool, true, false, cond, is_ok, List, Option, Some, None, ap, sym, refl, subst, arith}
use Rattle.std.specs.Prelude.{IsTrue, is_some, slice_get}
use Rattle.std.specs.Cmp.Lexicographic.{bytes_decides}
use Rattle.std.proofs.lemmas.Result.{err_from_is_err_and}
use Rattle.aria_page.specs.declared.lsn.Lsn.{Lsn}
use Rattle.aria_page.specs.declared.place.Part.TheVariants.{Keys, Rows}
use Rattle.aria_record.specs.declared.record.Record.TheVariants.{CreateTable}
use Rattle.aria_record.specs.Logged.{Logged, lsn_at_place}
use Rattle.aria_record.specs.Writing.{Writes, records_of}
use Rattle.aria_log.specs.Log.{place}
use Rattle.aria_recovery.specs.Tables.{Maker, made_page, file}
use Rattle.aria_value.specs.Named.{same_name}
use Rattle.aria_value.specs.Stored.{definition_bytes}
use Rattle.aria_recovery.proofs.Stepping.{apart_name}
use Rattle.aria_pager.specs.declared.page_store.PageStore.{PageStore}
use Rattle.aria_pager.specs.PageStore.{opened, set_at}
use Rattle.aria_pager.specs.Pager.{known}
use Rattle.aria_pager.specs.Filing.{first_slot, maker_of, maker_in, IsLogged, Logs, TurnsAll}
use Rattle.aria_pager.proofs.Dropping.{turns_none, turns_failed, turns_files}
use Rattle.aria_pager.proofs.Entering.{IsEntered, making_now, made_images, logged_on, turns_made, create_done, enter_opened, tidy_entered, enters_done}
use Rattle.aria_pager.proofs.Filed.{files_fault}
use Rattle.aria_pager.proofs.Filling.{making_on}
use Rattle.aria_pager.proofs.Making.{create_of, maker_at}
use Rattle.aria_pager.proofs.Reserving.{opens_reserved, names_reserved, tidy_ready}
use Rattle.aria_pager.proofs.Spelling.{new_number}
use Rattle.aria_pager.proofs.page_store.PageStore.create_unknown.Goals as goal

-- the same group, and the same maker
group_same : (a b : PageStore) (name stored stored' : List ℕ) → place b.log ≡ place a.log → stored ≡ stored' → create_of name stored b ≡ create_of name stored' a
group_same a b name stored stored' same is = λ i. record { at = same i; group = CreateTable name false (is i) 1 ∷ [] }

maker_same : (p : ℕ) (created : Lsn) (stored stored' : List ℕ) → lsn_at_place p ≡ created → stored ≡ stored' → maker_of (lsn_at_place p) stored ≡ maker_of created stored'
maker_same p created stored stored' same is = λ i. maker_of (same i) (is i)

pub returns-in_err-table-clause-turns : goal.returns-in_err-table-clause-turns
returns-in_err-table-clause-turns g c = λ told base start groups forced is.
    let p = err_from_is_err_and c.from_residual.result c.from_residual.ensures.1 in
    turns_none c.args.self.now c.make_ready.new.self (g.H.Host.state c.args.host.now) (g.H.Host.state c.make_ready.new.host) base start groups forced (create_of c.args.name.now (definition_bytes c.args.definition.now) c.args.self.now) false (is_ok c.from_residual.result)
    (opens_reserved c.args.self.now c.make_ready.new.self c.in_err-table.ensures.reserves) (ap is_ok p.1) (c.in_err-table.ensures.steps told base start groups forced is)

pub returns-in_err-table-clause-tidy : goal.returns-in_err-table-clause-tidy
returns-in_err-table-clause-tidy g c = λ is. tidy_ready c.args.self.now c.make_ready.new.self (ap (λ (v : PageStore). v.tables) c.in_err-table.ensures.rest) c.in_err-table.ensures.reserves is

pub log_create-requires-clause-pager : goal.log_create-requires-clause-pager
log_create-requires-clause-pager g c = λ told.
    let p = c.requires.pager told in
    let st = c.in_ok-table.ensures.steps told p.0 p.1 p.2 p.3 p.4 in
    (p.0, p.1, p.2, st.forced', st.pager refl)

pub returns-in_err-log_create-clause-turns : goal.returns-in_err-log_create-clause-turns
returns-in_err-log_create-clause-turns g c = λ told base start groups forced is.
    let name = c.args.name.now in
    let a = c.args.self.now in
    let b = c.make_ready.new.self in
    let d = c.log_create.new.self in
    let s = g.H.Host.state c.args.host.now in
    let u = g.H.Host.state c.make_ready.new.host in
    let v = g.H.Host.state c.log_create.new.host in
    let done = is_ok c.from_residual-in_err-log_create.result in
    let p = err_from_is_err_and c.from_residual-in_err-log_create.result c.from_residual-in_err-log_create.ensures.1 in
    let first = c.in_ok-table.ensures.steps told base start groups forced is in
    let logs = c.in_err-log_create.ensures.logs told base start groups first.forced' (first.pager refl) in
    let opens : opened d ≡ opened a = ap opened c.in_err-log_create.ensures.rest ∙ opens_reserved a b c.in_ok-table.ensures.reserves in
    subst (λ (x : Logged). TurnsAll a d s v base start groups forced x done) (group_same a b name c.as_slice.result.now (definition_bytes c.args.definition.now) c.in_ok-table.ensures.place (c.as_slice.ensures ∙ c.in_ok-table.ensures.table.stored))
    (turns_failed a b d s u v base start groups forced (create_of name c.as_slice.result.now b) false done (λ q on. subst (λ (o : List ℕ → Bool). IsTrue (o q)) opens on) (ap is_ok p.1) first logs)

pub returns-in_err-log_create-clause-tidy : goal.returns-in_err-log_create-clause-tidy
returns-in_err-log_create-clause-tidy g c = λ is. c.in_err-log_create.ensures.tidy (tidy_ready c.args.self.now c.make_ready.new.self (ap (λ (v : PageStore). v.tables) c.in_ok-table.ensures.rest) c.in_ok-table.ensures.reserves is)

pub make_files-requires-clause-absent : goal.make_files-requires-clause-absent
make_files-requires-clause-absent g c = λ told part.
    let p = c.requires.pager told in
    let st = c.in_ok-table.ensures.steps told p.0 p.1 p.2 p.3 p.4 in
    let logs = c.in_ok-log_create.ensures.logs told p.0 p.1 p.2 st.forced' (st.pager refl) in
    logs.files c.args.name.now part ∙ c.in_ok-table.ensures.absent told part

not_before : (n m : ℕ) → n < m → n ≤ m
not_before n m less = omega (arith, less)

pub make_files-requires-clause-making : goal.make_files-requires-clause-making
make_files-requires-clause-making g c = λ told.
    let name = c.args.name.now in
    let a = c.args.self.now in
    let b = c.make_ready.new.self in
    let d = c.log_create.new.self in
    let u = g.H.Host.state c.make_ready.new.host in
    let v = g.H.Host.state c.log_create.new.host in
    let stored = c.as_slice.result.now in
    let (base, start, groups, forced, is) = c.requires.pager told in
    let st = c.in_ok-table.ensures.steps told base start groups forced is in
    let pager = st.pager refl in
    let logs : Logs b d u v base start groups st.forced' (create_of name stored b) true = c.in_ok-log_create.ensures.logs told base start groups st.forced' pager in
    let unknown : known b name ≡ None = ap (λ (w : PageStore). known w name) c.in_ok-table.ensures.rest ∙ c.requires.unknown in
    let maker : maker_at stored b ≡ maker_in c.in_ok-table.table =
    maker_same (place b.log) c.in_ok-table.table.created stored c.in_ok-table.table.stored (ap lsn_at_place c.in_ok-table.ensures.place ∙ sym c.in_ok-table.ensures.created) c.as_slice.ensures in
    (base, start, groups ++ create_of name stored b ∷ [], making_now b d u v base start groups st.forced' name stored (maker_in c.in_ok-table.table) (ap opened c.in_ok-log_create.ensures.rest) unknown c.in_ok-log_create.ensures.later maker pager (logs.logged refl))

pub returns-in_err-make_files-clause-turns : goal.returns-in_err-make_files-clause-turns
returns-in_err-make_files-clause-turns g c = λ told base start groups forced is.
    let name = c.args.name.now in
    let a = c.args.self.now in
    let b = c.make_ready.new.self in
    let d = c.log_create.new.self in
    let s = g.H.Host.state c.args.host.now in
    let u = g.H.Host.state c.make_ready.new.host in
    let v = g.H.Host.state c.log_create.new.host in
    let w = g.H.Host.state c.make_files.new.host in
    let stored = c.as_slice.result.now in
    let done = is_ok c.from_residual-in_err-make_files.result in
    let p = err_from_is_err_and c.from_residual-in_err-make_files.result c.from_residual-in_err-make_files.ensures.1 in
    let first = c.in_ok-table.ensures.steps told base start groups forced is in
    let pager = first.pager refl in
    let logs : Logs b d u v base start groups first.forced' (create_of name stored b) true = c.in_ok-log_create.ensures.logs told base start groups first.forced' pager in
    let unknown : known b name ≡ None = ap (λ (w : PageStore). known w name) c.in_ok-table.ensures.rest ∙ c.requires.unknown in
    let maker : maker_at stored b ≡ maker_in c.in_ok-table.table =
    maker_same (place b.log) c.in_ok-table.table.created stored c.in_ok-table.table.stored (ap lsn_at_place c.in_ok-table.ensures.place ∙ sym c.in_ok-table.ensures.created) c.as_slice.ensures in
    let making = making_now b d u v base start groups first.forced' name stored (maker_in c.in_ok-table.table) (ap opened c.in_ok-log_create.ensures.rest) unknown c.in_ok-log_create.ensures.later maker pager (logs.logged refl) in
    let files = files_fault d v w base start (groups ++ create_of name stored b ∷ []) false done (ap is_ok p.1) (c.in_err-make_files.ensures.steps told base start (groups ++ create_of name stored b ∷ []) making) in
    let opens : opened d ≡ opened a = ap opened c.in_ok-log_create.ensures.rest ∙ opens_reserved a b c.in_ok-table.ensures.reserves in
    subst (λ (x : Logged). TurnsAll a d s w base start groups forced x done) (group_same a b name stored (definition_bytes c.args.definition.now) c.in_ok-table.ensures.place (c.as_slice.ensures ∙ c.in_ok-table.ensures.table.stored))
    (turns_files a b d s u v w base start groups forced (create_of name stored b) done (λ q on. subst (λ (o : List ℕ → Bool). IsTrue (o q)) opens on) first logs files
    (λ on. absurd (let e : true ≡ false = sym on ∙ ap is_ok p.1 in (cc))))

pub returns-in_err-make_files-clause-tidy : goal.returns-in_err-make_files-clause-tidy
returns-in_err-make_files-clause-tidy g c = λ is. c.in_ok-log_create.ensures.tidy (tidy_ready c.args.self.now c.make_ready.new.self (ap (λ (v : PageStore). v.tables) c.in_ok-table.ensures.rest) c.in_ok-table.ensures.reserves is)

pub returns-clause-turns : goal.returns-clause-turns
returns-clause-turns g c = λ told base start groups forced is.
    let name = c.args.name.now in
    let n = c.in_ok-table.n in
    let a = c.args.self.now in
    let b = c.make_ready.new.self in
    let d = c.log_create.new.self in
    let e = c.enter.new.self in
    let s = g.H.Host.state c.args.host.now in
    let u = g.H.Host.state c.make_ready.new.host in
    let v = g.H.Host.state c.log_create.new.host in
    let w = g.H.Host.state c.make_files.new.host in
    let stored = c.as_slice.result.now in
    let table = c.in_ok-table.table in
    let first = c.in_ok-table.ensures.steps told base start groups forced is in
    let pager = first.pager refl in
    let logs : Logs b d u v base start groups first.forced' (create_of name stored b) true = c.in_ok-log_create.ensures.logs told base start groups first.forced' pager in
    let unknown : known b name ≡ None = ap (λ (w : PageStore). known w name) c.in_ok-table.ensures.rest ∙ c.requires.unknown in
    let maker : maker_at stored b ≡ maker_in table = maker_same (place b.log) table.created stored table.stored (ap lsn_at_place c.in_ok-table.ensures.place ∙ sym c.in_ok-table.ensures.created) c.as_slice.ensures in
    let making = making_now b d u v base start groups first.forced' name stored (maker_in table) (ap opened c.in_ok-log_create.ensures.rest) unknown c.in_ok-log_create.ensures.later maker pager (logs.logged refl) in
    let all = groups ++ create_of name stored b ∷ [] in
    let files = c.in_ok-make_files.ensures.steps told base start all making in
    let now = making_on d v w base start all name (maker_in table) making files in
    let opens : opened d ≡ opened a = ap opened c.in_ok-log_create.ensures.rest ∙ opens_reserved a b c.in_ok-table.ensures.reserves in
    let there : IsTrue (is_some (slice_get d.slots n)) = subst (λ (w : PageStore). IsTrue (is_some (slice_get w.slots n))) (sym c.in_ok-log_create.ensures.rest) c.in_ok-table.ensures.there in
    let images = made_images d e w base start all name (maker_in table) now (enter_opened d e n name there c.enter.ensures.slots) (λ part. new_number c.args.definition.now table part c.in_ok-table.ensures.table)
    (c.in_ok-make_files.ensures.made told) (c.in_ok-make_files.ensures.durable told) in
    let log_is : e.log ≡ d.log = ap (λ (w : PageStore). w.log) c.enter.ensures.rest in
    let logged : IsLogged e w base start all = logged_on d e w base start all log_is images now.logged in
    let entered : IsEntered b e name n = record {
      free = ap (λ (f : ℕ → Option (List ℕ)). f n) (names_reserved a b c.in_ok-table.ensures.reserves) ∙ c.in_ok-table.ensures.free;
      there = c.in_ok-table.ensures.there;
      frames = ap (λ (w : PageStore). w.frames) c.enter.ensures.rest ∙ ap (λ (w : PageStore). w.frames) c.in_ok-log_create.ensures.rest;
      slots = c.enter.ensures.slots ∙ ap (λ (w : PageStore). set_at w.slots n (first_slot name)) c.in_ok-log_create.ensures.rest;
      pending = ap (λ (w : PageStore). w.pending) c.enter.ensures.rest ∙ ap (λ (w : PageStore). w.pending) c.in_ok-log_create.ensures.rest;
      started = ap (λ (w : PageStore). w.started) c.enter.ensures.rest ∙ ap (λ (w : PageStore). w.started) c.in_ok-log_create.ensures.rest ∙ c.in_ok-table.ensures.started;
      empty = subst (λ (w : PageStore). Writes w.writer []) (sym c.enter.ensures.rest) c.in_ok-log_create.ensures.empty;
      later = subst (λ (w : PageStore). place b.log ≤ place w.log) (sym c.enter.ensures.rest) (not_before (place b.log) (place d.log) c.in_ok-log_create.ensures.later);
      knows = λ q. ap (λ (w : PageStore). known w q) c.enter.ensures.rest ∙ c.in_ok-log_create.ensures.knows q;
    } in
    let idle : records_of b.writer ≡ [] = ap (λ (w : PageStore). records_of w.writer) c.in_ok-table.ensures.rest ∙ c.requires.idle told in
    let done = create_done b e u w base start groups first.forced' name stored n pager entered unknown idle
    (λ part. c.in_ok-make_files.ensures.made told part ∙ ap (λ (m : Maker). Some (made_page m part ∷ [])) (sym maker)) (λ other q off. c.in_ok-make_files.ensures.others told (file other q) (apart_name name other Keys q off) (apart_name name other Rows q off) ∙ logs.files other q) logged in
    subst (λ (x : Logged). TurnsAll a e s w base start groups forced x true) (group_same a b name stored (definition_bytes c.args.definition.now) c.in_ok-table.ensures.place (c.as_slice.ensures ∙ c.in_ok-table.ensures.table.stored))
    (turns_made a b d e s u v w base start groups forced (create_of name stored b) (λ q on. subst (λ (o : List ℕ → Bool). IsTrue (o q)) opens on) first logs files images done)

pub returns-clause-enters : goal.returns-clause-enters
returns-clause-enters g c =
    let name = c.args.name.now in
    let n = c.in_ok-table.n in
    let a = c.args.self.now in
    let b = c.make_ready.new.self in
    let e = c.enter.new.self in
    enters_done a b e n name c.in_ok-table.ensures.reserves c.in_ok-table.ensures.free c.in_ok-table.ensures.low c.in_ok-table.ensures.there
    (c.enter.ensures.slots ∙ ap (λ (w : PageStore). set_at w.slots n (first_slot name)) c.in_ok-log_create.ensures.rest)
    (λ q. ap (λ (w : PageStore). known w q) c.enter.ensures.rest ∙ c.in_ok-log_create.ensures.knows q ∙ ap (λ (w : PageStore). cond (same_name name q) (Some (Some n)) (known w q)) c.in_ok-table.ensures.rest)

pub returns-clause-tidy : goal.returns-clause-tidy
returns-clause-tidy g c = λ is.
    let name = c.args.name.now in
    let n = c.in_ok-table.n in
    let d = c.log_create.new.self in
    let e = c.enter.new.self in
    let there : IsTrue (is_some (slice_get d.slots n)) = subst (λ (w : PageStore). IsTrue (is_some (slice_get w.slots n))) (sym c.in_ok-log_create.ensures.rest) c.in_ok-table.ensures.there in
    let tidy = c.in_ok-log_create.ensures.tidy (tidy_ready c.args.self.now c.make_ready.new.self (ap (λ (v : PageStore). v.tables) c.in_ok-table.ensures.rest) c.in_ok-table.ensures.reserves is) in
    tidy_entered d e n name there c.enter.ensures.slots (ap (λ (w : PageStore). w.tables) c.enter.ensures.rest)
    (c.in_ok-log_create.ensures.knows name ∙ ap (λ (b : Bool). cond b (Some (Some n)) (known c.make_ready.new.self name)) ((bytes_decides name name).1 refl)) tidy
