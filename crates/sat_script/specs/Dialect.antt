-- What a script may have: what it is read for, its dialect, and its format choose the limits and the forms. A further
-- dialect is a row more.
use Rattle.std.specs.Prelude.{ℕ, Bool, true, false, nat_le}
use Rattle.sat_label.specs.Formats.{limits_of as format_limits}
use Rattle.sat_script.specs.declared.dialect.Dialect.{Dialect}
use Rattle.sat_script.specs.declared.dialect.Dialect.TheVariants as dialect
use Rattle.sat_script.specs.declared.dialect.Limits.{Limits}
use Rattle.sat_script.specs.declared.fault.Cause.{Cause}
use Rattle.sat_script.specs.declared.fault.Cause.TheVariants.{BadAct, NotLive}
use Rattle.sat_script.specs.declared.form.Form.{Form}
use Rattle.sat_script.specs.declared.form.Form.TheVariants as form
use Rattle.sat_script.specs.declared.limits.TheConstants.{MOST_CLIENTS, MOST_SETTLES, LIVE_SITES, LIVE_CLIENTS}
use Rattle.sat_script.specs.declared.limits.TheConstants.{LIVE_ACTS, AUDIT_ACTS}

-- the limits of scripts of a dialect and a format
abbrev pub limits_of : Dialect → ℕ → Limits
limits_of dialect.Run format =
    record {
      sites = (format_limits format).sites;
      items = (format_limits format).items;
      clients = MOST_CLIENTS;
      acts = (format_limits format).acts;
      settles = MOST_SETTLES;
    }
limits_of dialect.Live format =
    record {
      sites = LIVE_SITES;
      items = (format_limits format).items;
      clients = LIVE_CLIENTS;
      acts = LIVE_ACTS;
      settles = MOST_SETTLES;
    }
limits_of dialect.Audit format =
    record {
      sites = (format_limits format).sites;
      items = (format_limits format).items;
      clients = MOST_CLIENTS;
      acts = AUDIT_ACTS;
      settles = MOST_SETTLES;
    }
limits_of dialect.Chain format =
    record {
      sites = (format_limits format).sites;
      items = (format_limits format).items;
      clients = MOST_CLIENTS;
      acts = (format_limits format).acts;
      settles = MOST_SETTLES;
    }
limits_of dialect.Lasting format =
    record {
      sites = (format_limits format).sites;
      items = (format_limits format).items;
      clients = MOST_CLIENTS;
      acts = (format_limits format).acts;
      settles = MOST_SETTLES;
    }

-- the forms of a script for nodes on threads
unfoldable pub is_live : Form → Bool
is_live form.Item = true
is_live form.Client = true
is_live form.PlanStamp = true
is_live form.PlanTree = true
is_live form.Write = true
is_live form.WritesTwo = true
is_live form.WritesThree = true
is_live form.WritesFour = true
is_live form.Read = true
is_live form.Move = true
is_live form.Leave = true
is_live form.Attach = true
is_live form.Close = true
is_live form.Fall = true
is_live form.Kill = true
is_live _ = false

-- the forms of a history that is judged
abbrev pub is_audited : Form → Bool
is_audited form.Settle = false
is_audited _ = true

-- the forms of a script for serializers that are chains of replicas: what a hop does is done by forms of their own
abbrev pub is_chained : Form → Bool
is_chained form.Hop = false
is_chained form.Kill = false
is_chained form.Settle = false
is_chained _ = true

-- the forms of a script for sites that last
abbrev pub is_lasting : Form → Bool
is_lasting form.Clock = false
is_lasting form.Settle = false
is_lasting _ = true

-- the forms of each dialect
abbrev pub has_form : Dialect → Form → Bool
has_form dialect.Run f = true
has_form dialect.Live f = is_live f
has_form dialect.Audit f = is_audited f
has_form dialect.Chain f = is_chained f
has_form dialect.Lasting f = is_lasting f

-- the dialects that have each form which most lines are, but hops perhaps, within the limits of their format
abbrev pub is_quick : Dialect → Bool
is_quick dialect.Run = true
is_quick dialect.Live = false
is_quick dialect.Audit = false
is_quick dialect.Chain = true
is_quick dialect.Lasting = true

-- why a line is refused that has a form which its dialect lacks: to all but nodes on threads it has none at all
abbrev pub lacking : Dialect → Cause
lacking dialect.Run = BadAct
lacking dialect.Live = NotLive
lacking dialect.Audit = BadAct
lacking dialect.Chain = BadAct
lacking dialect.Lasting = BadAct

-- how many items an act of the form writes under one label, where that may be more than one
abbrev pub written_by : Form → ℕ
written_by form.WritesTwo = 2
written_by form.WritesThree = 3
written_by form.WritesFour = 4
written_by _ = 1

-- the forms of each format: none that writes more items under one label than the format allows
unfoldable pub allows : ℕ → Form → Bool
allows format f = nat_le (written_by f) (format_limits format).written

-- the dialect of scripts for nodes on threads, or of the others
abbrev pub dialect_of : Bool → Dialect
dialect_of true = dialect.Live
dialect_of false = dialect.Run
