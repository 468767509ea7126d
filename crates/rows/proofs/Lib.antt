mod Marks
mod Spans
