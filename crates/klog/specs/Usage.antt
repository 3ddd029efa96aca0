-- How full a log is.
use Rattle.std.specs.Prelude.{◌-◌, length}
use Rattle.klog.specs.declared.log_usage.LogUsage.{LogUsage}
use Rattle.klog.specs.Log.{LogState}

-- how full a log is
abbrev pub usage_of : LogState → LogUsage
usage_of k = record {
  segments = k.shape.segments;
  free_segments = k.shape.segments - k.stored;
  is_flushing = k.is_flushing;
  segment_pages = k.shape.segment_pages;
  filled_pages = length k.filling;
  limit = k.shape.limit;
  live = length k.entries;
}
