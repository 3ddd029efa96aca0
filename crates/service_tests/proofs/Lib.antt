mod LaneRows
mod CommandRows
mod ReaderRows
